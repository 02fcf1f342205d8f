-- What an answer tells of takes and refused begins is the same once the command has left.
use Rattle.std.proofs.Common.{◌≡◌, ◌∙◌, ap, sym, List, ◌∷◌, Option, refl}
use Rattle.std.specs.Prelude.{Bool, true, false, Some, None, if◌then◌else◌}
use Rattle.qs_base.specs.declared.identifiers.Tid.{Tid}
use Rattle.qs_ops.specs.declared.answer.Answer.{Answer}
use Rattle.qs_ops.specs.declared.answer.Answer.TheVariants as answers
use Rattle.qs_book_journal.specs.declared.script_line.ScriptLine.{ScriptLine}
use Rattle.qs_book_machine.specs.Book.{BookValue, find_label}
use Rattle.qs_book_conformance.specs.Commands.{is_take}
use Rattle.qs_book_conformance.specs.Course.{ClientValue, first_of}
use Rattle.qs_book_conformance.specs.Effects.{take_of, taken_by, refused_by, told_of, answered, rest_of}
use Rattle.qs_book_conformance.specs.declared.values.CommandMade.TheVariants as makes

-- the client once its first command has left
abbrev gone_on : List ScriptLine → ClientValue → ClientValue
gone_on rest client = record client { left = rest; made = makes.Nothing }

either_gone_on : (test : Bool) (rest : List ScriptLine) (one other : ClientValue) → (if test then gone_on rest one else gone_on rest other) ≡ gone_on rest (if test then one else other)
either_gone_on true rest one other = refl
either_gone_on false rest one other = refl

take_gone_on : (tid : Option Tid) (rest : List ScriptLine) (client : ClientValue) → take_of tid (gone_on rest client) ≡ gone_on rest (take_of tid client)
take_gone_on None rest client = refl
take_gone_on (Some tid) rest client = refl

taken_gone_on : (book : BookValue) (line : ScriptLine) (rest : List ScriptLine) (client : ClientValue) → taken_by book line (gone_on rest client) ≡ gone_on rest (taken_by book line client)
taken_gone_on book line rest client =
    ap (λ (taken : ClientValue). if is_take line.command then taken else gone_on rest client) (take_gone_on (find_label book line.label) rest client)
    ∙ either_gone_on (is_take line.command) rest (take_of (find_label book line.label) client) client

refused_gone_on : (line : ScriptLine) (answer : Answer) (rest : List ScriptLine) (client : ClientValue) → refused_by line answer (gone_on rest client) ≡ gone_on rest (refused_by line answer client)
refused_gone_on line (answers.LogFull need room) rest client = refl
refused_gone_on line answer rest client = refl

told_gone_on : (book : BookValue) (answer : Answer) (line : ScriptLine) (rest : List ScriptLine) (client : ClientValue) → refused_by line answer (taken_by book line (gone_on rest client)) ≡ gone_on rest (refused_by line answer (taken_by book line client))
told_gone_on book answer line rest client =
    ap (refused_by line answer) (taken_gone_on book line rest client) ∙ refused_gone_on line answer rest (taken_by book line client)

pub answered_first : (book : BookValue) (answer : Answer) (line : ScriptLine) (rest : List ScriptLine) (client : ClientValue) → client.left ≡ line ∷ rest
    → refused_by line answer (taken_by book line (record client { left = rest; made = makes.Nothing })) ≡ answered book answer client
answered_first book answer line rest client first =
    told_gone_on book answer line rest client
    ∙ ap (λ (left : List ScriptLine). gone_on (rest_of left) (told_of book answer (first_of left) client)) (sym first)
