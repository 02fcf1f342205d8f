use Rattle.std.proofs.Common.{◌≡◌, ℕ, subst, arith}
use Rattle.qs_log_batch.proofs.ReadLemmas.{IsUnderWay, underway_more, underway_lacks, underway_done, codec_none}
use Rattle.qs_log_batch.proofs.area.add_records.Goals as goal

-- src/area.rt:93:47
pub returns-in-Err-Codec : goal.returns-in-Err-Codec
returns-in-Err-Codec c =
    underway_lacks c.loop-turn._turn c.args.count c.args.body.now c.args.records.now c.loop-turn.reader c.loop-turn.records c.loop-turn.invariant c.loop-turn-test.true
    (codec_none c.loop-turn.reader c.in-Err-Codec.field-0 c.in-Err-Codec.field-0-0 c.in-Err-Codec.field-0-is c.in-Err-Codec.ensures.only)

-- src/area.rt:90:5
pub loop-turn-preserved : goal.loop-turn-preserved
loop-turn-preserved c =
    rw c.in_ok-push-in-Ok.ensures.ok
    (underway_more c.loop-turn._turn c.args.body.now c.args.records.now c.loop-turn.reader c.decode.new.reader c.loop-turn.records c.in-Ok.rec c.loop-turn.invariant c.in-Ok.ensures.value)

-- src/area.rt:81:1
pub returns : goal.returns
returns c =
    let all : c.loop-turn._turn ≡ c.args.count = omega arith in
    underway_done c.args.count c.left.result c.args.body.now c.args.records.now c.loop-turn.reader c.loop-turn.records
    (subst (λ (n : ℕ). IsUnderWay n c.args.body.now c.args.records.now c.loop-turn.reader c.loop-turn.records) all c.loop-turn.invariant) c.left.ensures
