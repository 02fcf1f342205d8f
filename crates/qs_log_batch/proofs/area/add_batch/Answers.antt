use Rattle.std.proofs.Common.{◌≢◌, Bool, refl, sym, subst, arith}
use Rattle.std.proofs.lemmas.Bool.{false≢true, eqb-true, eqb-false}
use Rattle.qs_log_batch.specs.Reading.{AddsRecords, LacksRecords, Decides}
use Rattle.qs_log_batch.proofs.CutLemmas.{none_counted, none_intact, none_lacks, cut_batch}
use Rattle.qs_log_batch.proofs.area.add_batch.Goals as goal
use Rattle.qs_log_batch.proofs.area.add_batch.Goals.{then-is_empty-via-then-is_empty, then-is_empty-via-else-is_empty+then-not-is_intact}

pub returns-then-is_empty : goal.returns-then-is_empty
returns-then-is_empty c =
    elim c.then-is_empty.branch [
      | then-is_empty-via-then-is_empty w ↦ none_counted c.args.area.now c.in-Some.parts.head.now c.in-Some.parts.count c.in-Some.parts.body.now c.in-Some.parts.digest.now c.in-Some.ensures (eqb-true c.in-Some.parts.count 0 (sym w.if-is_empty.ensures))
      | then-is_empty-via-else-is_empty+then-not-is_intact w ↦ none_intact c.args.area.now c.in-Some.parts.head.now c.in-Some.parts.count c.in-Some.parts.body.now c.in-Some.parts.digest.now c.in-Some.ensures (λ e. false≢true (w.if-not-is_intact.ensures.1 e))
    ]

pub returns-then-not-branch : goal.returns-then-not-branch
returns-then-not-branch c =
    let lacks : LacksRecords c.in-Some.parts.count c.in-Some.parts.body.now =
    subst (λ (b : Bool). Decides b c.in-Some.parts.count c.in-Some.parts.body.now c.args.records.now c.add_records.new.records) c.if-not-branch.true c.in_ok-add_records.ensures in
    none_lacks c.args.area.now c.in-Some.parts.head.now c.in-Some.parts.count c.in-Some.parts.body.now c.in-Some.parts.digest.now c.in-Some.ensures lacks

pub returns : goal.returns
returns c =
    let adds : AddsRecords c.in-Some.parts.count c.in-Some.parts.body.now c.args.records.now c.add_records.new.records =
    subst (λ (b : Bool). Decides b c.in-Some.parts.count c.in-Some.parts.body.now c.args.records.now c.add_records.new.records) c.if-not-branch.false c.in_ok-add_records.ensures in
    cut_batch c.args.area.now c.in-Some.parts.head.now c.in-Some.parts.count c.in-Some.parts.body.now c.in-Some.parts.digest.now c.args.records.now c.add_records.new.records c.in-Some.ensures
    (let some : c.in-Some.parts.count ≢ 0 = eqb-false c.in-Some.parts.count 0 (sym c.if-is_empty.ensures) in omega arith) (c.if-not-is_intact.ensures.0 refl) adds
