use Rattle.std.proofs.Common.{◌≡◌, ◌<◌, ◌^◌, drop}
use Rattle.qs_book_script.specs.Numbers.{read_on}
use Rattle.qs_book_script.proofs.number.value_of.Given as goal

abbrev pub invariant-loop-digit : goal.invariant-loop-digit
invariant-loop-digit l = record {
  same : read_on l.value (drop l.digit-index l.digits) ≡ read_on 0 l.digits;
  small : l.value < 2 ^ 64;
}
