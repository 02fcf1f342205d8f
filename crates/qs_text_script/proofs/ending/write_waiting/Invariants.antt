use Rattle.std.proofs.Common.{take}
use Rattle.std.specs.Fmt.{HasWritten, IsPlainFormatter}
use Rattle.std.specs.List.{flat_map}
use Rattle.qs_text_script.specs.StatusLine.{one_waiting_text}
use Rattle.qs_text_script.proofs.ending.write_waiting.Given as goal

abbrev pub invariant-loop-one : goal.invariant-loop-one
invariant-loop-one g l =
    IsPlainFormatter l.initial.f → HasWritten g.W.Write.write_str_gives l.initial.f (flat_map one_waiting_text (take l.one-index l.waiting)) l.f
