use Rattle.qs_world_filed.proofs.NotesReplied.{each_reply_tells}
use Rattle.qs_world_filed.proofs.notes.replies_tell_notes.Goals as goal

pub returns : goal.returns
returns c = each_reply_tells
