use Rattle.std.proofs.Common.{◌≡◌, fold, take}
use Rattle.qs_files_contents.specs.Slots.{unread_name}
use Rattle.qs_files_contents.proofs.slots.FileTexts.unread_all.Given as goal

abbrev pub invariant-loop-name : goal.invariant-loop-name
invariant-loop-name l = l.self ≡ fold (unread_name l.tid) l.initial.self (take l.name-index l.names)
