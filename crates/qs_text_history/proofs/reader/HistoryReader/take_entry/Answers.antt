use Rattle.std.proofs.Common.{◌++◌, ◌∷◌, []}
use Rattle.qs_text_history.proofs.BegunLemmas.{knows_more, ok_knows}
use Rattle.qs_text_history.proofs.reader.HistoryReader.take_entry.Goals as goal

pub returns-in-Ok-clause-knows : goal.returns-in-Ok-clause-knows
returns-in-Ok-clause-knows c = λ knows.
    ok_knows c.push.result c.note_begin.new.begun c.push.new.self (c.args.self.now.entries ++ c.args.entry ∷ []) c.push.ensures.ok
    (knows_more c.args.self.now.begun c.note_begin.new.begun c.args.self.now.entries c.args.entry knows c.in-Ok.ensures.labels c.in-Ok.ensures.tids)
