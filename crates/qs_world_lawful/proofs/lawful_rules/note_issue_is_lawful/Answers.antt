use Rattle.qs_world_lawful.proofs.NotesIssued.{by_note}
use Rattle.qs_world_lawful.proofs.lawful_rules.note_issue_is_lawful.Goals as goal

pub returns : goal.returns
returns c = by_note
