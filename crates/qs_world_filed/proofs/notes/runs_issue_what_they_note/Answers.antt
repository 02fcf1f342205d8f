use Rattle.qs_world_filed.proofs.NotesRuns.{each_run_issues}
use Rattle.qs_world_filed.proofs.notes.runs_issue_what_they_note.Goals as goal

pub returns : goal.returns
returns c = each_run_issues
