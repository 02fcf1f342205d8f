use Rattle.std.proofs.Common.{inl, inr, ◌∙◌, sym}
use Rattle.qs_cell.proofs.Turning.{on_err_all}
use Rattle.qs_world_rounds.proofs.visits.act_in_burst.Goals as goal

pub returns-in_err-act-clause-refused : goal.returns-in_err-act-clause-refused
returns-in_err-act-clause-refused g c = on_err_all c.from_residual.result (inl c.in_err-act.ensures.breaks)
