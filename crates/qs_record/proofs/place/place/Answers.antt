use Rattle.std.proofs.Common.{rules, ◌≡◌, arith}
use Rattle.qs_record.proofs.Places.{end_of, end_told}
use Rattle.qs_record.proofs.place.place.Goals as goal
use Rattle.qs_record.proofs.place.place.Goals.{in_default-via-in-Err+in_default, in_default-via-in_default}

pub overflow_sub-result : goal.overflow_sub-result
overflow_sub-result c =
    let told = end_told c.u8.result c.u8-2.result c.loop.end c.u8.new.self c.u8-2.new.self (cc) c.u8.ensures.exact c.u8-2.ensures.exact in
    let at : c.in-Err-Short.at ≡ end_of c.loop.end = cc (told, c.in-Err-Short.is, c.in-Err-Short.field-0-is) in
    omega (arith, at, c.loop.invariant)

pub unreachable-requires : goal.unreachable-requires
unreachable-requires c =
    let told = end_told c.u8.result c.u8-2.result c.loop.end c.u8.new.self c.u8-2.new.self (cc) c.u8.ensures.exact c.u8-2.ensures.exact in
    elim c.in_default.branch [ in_default-via-in-Err+in_default w ↦ first_of (cc, search (rules, told), grind (arith, told)) | in_default-via-in_default w ↦ first_of (cc, search (rules, told), grind (arith, told)) ]

pub returns : goal.returns
returns c =
    let told = end_told c.u8.result c.u8-2.result c.loop.end c.u8.new.self c.u8-2.new.self (cc) c.u8.ensures.exact c.u8-2.ensures.exact in
    let at : c.in-Err-Short.at ≡ end_of c.loop.end = cc (told, c.in-Err-Short.is, c.in-Err-Short.field-0-is) in
    omega (arith, at, c.loop.invariant)
