-- What the course has of the client of a command in hand: its first line is the command's; and what was not done before has made nothing.
use Rattle.std.proofs.Common.{◌≡◌, ◌∙◌, ◌==◌, Bool, true, false, List, [], ◌∷◌, Option, Some, None, inl, inr, refl, sym, ap, subst}
use Rattle.std.specs.Prelude.{◌⊎◌, ◌<◌, not, slice_get}
use Rattle.std.specs.List.{find}
use Rattle.qs_base.specs.declared.identifiers.ClientNo.{ClientNo}
use Rattle.qs_base.specs.declared.identifiers.NodeNo.{NodeNo}
use Rattle.qs_base.specs.declared.identifiers.Tid.{Tid}
use Rattle.qs_base_lemmas.proofs.Tests.{lt_apart, or_first, some_same}
use Rattle.qs_book_journal.specs.declared.script_line.Command.TheVariants as commands
use Rattle.qs_book_journal.specs.declared.script_line.ScriptLine.{ScriptLine}
use Rattle.qs_book_conformance.specs.Course.{ClientValue, CourseValue, first_of, is_seat}
use Rattle.qs_book_conformance.specs.declared.values.CommandMade.{CommandMade}
use Rattle.qs_book_conformance.specs.declared.values.CommandMade.TheVariants as makes
use Rattle.qs_node_kept.specs.Keeping.{is_outcome_of}
use Rattle.qs_node_kept.specs.Loans.{last_taken}
use Rattle.qs_node_kept.specs.declared.kept.KeptLabel.{KeptLabel}
use Rattle.qs_node_kept.specs.declared.kept.Lent.{Lent}
use Rattle.qs_node_step.specs.Answering.{kept_outcome}
use Rattle.qs_node_step.specs.Borrowing.{is_aborted}
use Rattle.qs_node_step.specs.State.{Work}
use Rattle.qs_node_step.specs.Step.{is_owner}
use Rattle.qs_node_step.specs.declared.state.Issued.{Issued}
use Rattle.qs_node_step.specs.declared.state.OpenCommand.{OpenCommand}
use Rattle.qs_world_course.specs.Clients.{Commands, ForClients, HasMade, HasMadeUnissued, IsOnCourse, IsOver, in_hand_of, sought_of}
use Rattle.qs_world_walk.specs.Deed.{fresh_command}
use Rattle.qs_world_walk.specs.May.{HasLoan, IsMet}
use Rattle.qs_world_said.specs.Amid.{AreAmid, IsAmid, JustCame, clients_of, unhanded}
use Rattle.qs_world_said.proofs.Lookups.{first_left}

pub first_in : (node : ForClients) (came : Option ClientNo) (client : ClientNo) (state : ClientValue) (command : OpenCommand) → IsAmid node came client state → in_hand_of client node.in_hand ≡ Some command
    → first_of state.left ≡ Some command.line
first_in node came client state command (inl held) is = held.line command is
first_in node came client state command (inr (its, just)) is = just.first ∙ ap (λ (c : OpenCommand). Some c.line) (some_same (sym just.there ∙ is))

-- with other things in hand it is on the course
pub record IsHeldSo (node : ForClients) (client : ClientNo) (state : ClientValue) : Type 0 where
  pub beside : Commands
  pub held : IsOnCourse (record node { in_hand = beside }) client state.left state

held_so : (node : ForClients) (came : Option ClientNo) (client : ClientNo) (state : ClientValue) → IsAmid node came client state → IsHeldSo node client state
held_so node came client state (inl held) = record { beside = node.in_hand; held = held }
held_so node came client state (inr (its, just)) = record { beside = []; held = just.held }

pub record Handed (course : CourseValue) (node : ForClients) (came : Option ClientNo) (client : ClientNo) (command : OpenCommand) : Type 0 where
  pub state : ClientValue
  pub there : slice_get course.clients client.0 ≡ Some state
  pub sits : is_seat state.seat node.here.0 ≡ true
  pub amid : IsAmid node came client state
  pub ungiven : state.made ≡ makes.GaveBack → ⊥
  pub first : first_of state.left ≡ Some command.line
  pub rest : List ScriptLine
  pub left : state.left ≡ command.line ∷ rest
  pub so : IsHeldSo node client state

pub handed : (course : CourseValue) (node : ForClients) (came : Option ClientNo) (client : ClientNo) (command : OpenCommand) → AreAmid course node came → in_hand_of client node.in_hand ≡ Some command
    → Handed course node came client command
handed course node came client command on is =
    let a = on client in
    let had = a.seated command is in
    let amid : IsAmid node came client had.0 = a.each had.0 had.1.0 had.1.1 in
    let first : first_of had.0.left ≡ Some command.line = first_in node came client had.0 command amid is in
    let lines = first_left had.0.left command.line first in
    record { state = had.0; there = had.1.0; sits = had.1.1; amid = amid; ungiven = a.ungiven had.0 had.1.0 had.1.1; first = first; rest = lines.0; left = lines.1; so = held_so node came client had.0 amid }

-- ---- what it has made

unissued_made : (command : OpenCommand) (made : CommandMade) → (command.line.command ≡ commands.Commit → ⊥) → (command.line.command ≡ commands.Abort → ⊥) → HasMadeUnissued command made → made ≡ makes.Nothing
unissued_made command makes.Nothing c a h = refl
unissued_made command makes.Begun c a h = absurd h
unissued_made command makes.Asked c a h = absurd (c h)
unissued_made command makes.Aborted c a h = absurd (a h)
unissued_made command makes.GaveBack c a h = absurd h
unissued_made command (makes.Issued sought) c a h = absurd h

abbrev pub MadeAs : NodeNo → OpenCommand → CommandMade → Option Issued → Type 0
MadeAs here command made None = HasMadeUnissued command made
MadeAs here command made (Some issued) = made ≡ makes.Issued (sought_of here issued)

pub made_as : (here : NodeNo) (command : OpenCommand) (made : CommandMade) (o : Option Issued) → command.issued ≡ o → HasMade here command made → MadeAs here command made o
made_as here command made o is h = subst (MadeAs here command made) is (by command.issued h)
  where
    by : (i : Option Issued) → (elim i as (λ i. Type 0) [ None ↦ HasMadeUnissued command made | Some issued ↦ made ≡ makes.Issued (sought_of here issued) ]) → MadeAs here command made i
    by None m = m
    by (Some issued) m = m

-- a line that just came has made nothing, unless it is over
pub just_unmade : (node : ForClients) (client : ClientNo) (state : ClientValue) (line : ScriptLine) → JustCame node client state → first_of state.left ≡ Some line → (IsOver client (unhanded node) line.label → ⊥) → state.made ≡ makes.Nothing
just_unmade node client state line just first over = by (just.held.spent refl)
  where
    by : (state.made ≡ makes.Nothing) ⊎ ((l : ScriptLine) → first_of state.left ≡ Some l → IsOver client (unhanded node) l.label) → state.made ≡ makes.Nothing
    by (inl nothing) = nothing
    by (inr before) = absurd (over (before line first))

-- what is not issued, and neither asks nor aborts, has made nothing, unless nothing but an answer is left to be made of it
pub unmade : (node : ForClients) (came : Option ClientNo) (client : ClientNo) (state : ClientValue) (command : OpenCommand) → IsAmid node came client state → in_hand_of client node.in_hand ≡ Some command → command.issued ≡ None
    → (command.line.command ≡ commands.Commit → ⊥) → (command.line.command ≡ commands.Abort → ⊥) → (IsOver client (unhanded node) command.line.label → ⊥) → state.made ≡ makes.Nothing
unmade node came client state command (inl held) is fresh c a over = unissued_made command state.made c a (made_as node.here command state.made None fresh (held.made command is))
unmade node came client state command (inr (its, just)) is fresh c a over = just_unmade node client state command.line just (first_in node came client state command (inr (its, just)) is) over

-- what has made nothing is on the course
pub on_course : (node : ForClients) (came : Option ClientNo) (client : ClientNo) (state : ClientValue) → IsAmid node came client state → state.made ≡ makes.Nothing → IsOnCourse node client state.left state
on_course node came client state (inl held) nothing = held
on_course node came client state (inr (its, just)) nothing = record {
  seat = just.held.seat;
  left = just.held.left;
  line = λ other is. first_in node came client state other (inr (its, just)) is;
  made = λ other is. subst (λ (c : OpenCommand). HasMade node.here c state.made) (some_same (sym just.there ∙ is)) (subst (HasMade node.here (fresh_command just.line)) (sym nothing) tt);
  spent = λ gone. inl nothing;
  loans = just.held.loans;
  refused = just.held.refused;
  begun = just.held.begun;
}

-- ---- what is over: an owner's outcome is kept, and a borrower's loan is void

module _ (work : Work) (client : ClientNo) (command : OpenCommand) (own : Bool) (tid : Tid) (met : IsMet client command own (Some tid) work) (over : IsOver client (unhanded (clients_of work)) command.line.label) where
  same_begun : over.begun ≡ met.begun
  same_begun = some_same (sym over.labelled ∙ met.met)

  same_of : over.tid ≡ tid
  same_of = some_same (sym over.of ∙ (ap (λ (b : KeptLabel). b.tid) same_begun ∙ met.of_is))

  owner_so : is_owner client over.begun.owner ≡ own
  owner_so = ap (λ (b : KeptLabel). is_owner client b.owner) same_begun ∙ met.own_is

  pub not_over_owned : own ≡ true → kept_outcome tid work.node ≡ None → ⊥
  not_over_owned is none = let had = over.decided (owner_so ∙ is) in
      absurd (cc (sym had.1 ∙ (ap (λ (t : Tid). find (is_outcome_of t) work.node.kept.now.outcomes) same_of ∙ none)))

  pub not_over_lent : own ≡ false → (loan : Lent) → HasLoan client tid loan work → ⊥
  not_over_lent is loan has = let had = over.lent_before (owner_so ∙ is) in
      let same : had.0 ≡ loan = some_same (sym had.1.0 ∙ (ap (λ (t : Tid). last_taken client t work.node.kept.now.loans) same_of ∙ has.last)) in
      let early : loan.inc < work.node.setting.inc = subst (λ (l : Lent). l.inc < work.node.setting.inc) same had.1.1 in
      wrong (loan.inc == work.node.setting.inc) (lt_apart loan.inc work.node.setting.inc early) (or_first (not (loan.inc == work.node.setting.inc)) (is_aborted tid work.node) has.good)
    where
      wrong : (b : Bool) → b ≡ false → not b ≡ false → ⊥
      wrong true e f = absurd (cc e)
      wrong false e f = absurd (cc f)

  pub not_over_unlent : own ≡ false → last_taken client tid work.node.kept.now.loans ≡ None → ⊥
  not_over_unlent is none = let had = over.lent_before (owner_so ∙ is) in
      absurd (cc (sym had.1.0 ∙ (ap (λ (t : Tid). last_taken client t work.node.kept.now.loans) same_of ∙ none)))
