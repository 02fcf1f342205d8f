-- A line comes, or a label is learnt; and where nothing is done for a line, its client is on the course as before.
use Rattle.std.proofs.Common.{◌≡◌, ◌∙◌, ℕ, ◌==◌, true, false, List, [], Option, Some, None, inl, inr, refl, sym, ap, subst}
use Rattle.std.specs.Prelude.{◌⊎◌, slice_get}
use Rattle.std.proofs.lemmas.Cmp.{nat_cmp_total, tied_itself}
use Rattle.std.proofs.lemmas.List.{append-nil}
use Rattle.std.specs.BTreeMap.{insert_entry, is_at}
use Rattle.qs_base.specs.declared.identifiers.ClientNo.{ClientNo}
use Rattle.qs_base.specs.declared.identifiers.Tid.{Tid}
use Rattle.qs_base_lemmas.proofs.Tests.{some_same}
use Rattle.qs_book_journal.specs.declared.script_line.Command.TheVariants as commands
use Rattle.qs_book_journal.specs.declared.script_line.ScriptLine.{ScriptLine}
use Rattle.qs_book_laws.proofs.Maps.{lookup_put, lookup_put_apart}
use Rattle.qs_book_conformance.specs.Answers.{is_refused}
use Rattle.qs_book_conformance.specs.Course.{ClientValue, CourseValue, first_of, is_seat}
use Rattle.qs_book_conformance.specs.declared.values.CommandMade.TheVariants as makes
use Rattle.qs_node_kept.specs.Keeping.{has_label}
use Rattle.qs_node_kept.specs.declared.kept.KeptLabel.{KeptLabel}
use Rattle.qs_node_step.specs.State.{Work, client_cmp}
use Rattle.qs_node_step.specs.Step.{is_owner}
use Rattle.qs_node_step.specs.declared.state.OpenCommand.{OpenCommand}
use Rattle.qs_world_course.specs.Answered.{with_label}
use Rattle.qs_world_course.specs.Clients.{Commands, ForClients, IsOnCourse, IsOver, IsSpent, in_hand_of}
use Rattle.qs_world_lawful.proofs.Answers.{client_exact}
use Rattle.qs_world_walk.specs.Deed as d
use Rattle.qs_world_walk.specs.Deed.{closed, did, fresh_command}
use Rattle.qs_world_said.specs.Amid.{ClientAmid, IsAmid, IsSaidSo, JustCame, clients_of, course_amid, unhanded}
use Rattle.qs_world_said.specs.Deeds.{ComesJust, ComesKeeps, LearnsKeeps, RestsKeep}
use Rattle.qs_world_said.specs.Knows.{ComesFirst}
use Rattle.qs_world_said.proofs.Frames.{all_amid, amid_stays, goes, of_state, same_replies, the_others}
use Rattle.qs_world_said.proofs.InHand.{first_in, just_unmade, on_course}
use Rattle.qs_world_said.proofs.Lookups.{IsFoundOr, find_last, found_before, not_at}

-- ---- one more label, which is not the client's own

abbrev pub with_one : KeptLabel → ForClients → ForClients
with_one one node = record node { kept = with_label one node.kept }

module _ (node : ForClients) (client : ClientNo) (one : KeptLabel) (other : is_owner client one.owner ≡ false) where
  over_still : (label : List ℕ) → IsOver client node label → IsOver client (with_one one node) label
  over_still label o = record { begun = o.begun; labelled = found_before (has_label label) node.kept.labels one o.begun o.labelled; tid = o.tid; of = o.of; decided = o.decided; lent_before = o.lent_before }

  pub label_grows : (lines : List ScriptLine) (state : ClientValue) → ((tid : Tid) → one.tid ≡ Some tid → is_refused state one.label ≡ false) → IsOnCourse node client lines state → IsOnCourse (with_one one node) client lines state
  label_grows lines state unrefused held = record {
    seat = held.seat;
    left = held.left;
    line = held.line;
    made = held.made;
    spent = λ gone. spent (held.spent gone);
    loans = held.loans;
    refused = λ label begun found own without. refused label begun own without (find_last label node.kept.labels one begun found);
    begun = λ label begun tid found of. standing label begun tid of (find_last label node.kept.labels one begun found);
  }
    where
      spent : IsSpent client node (first_of lines) state.made → IsSpent client (with_one one node) (first_of lines) state.made
      spent (inl nothing) = inl nothing
      spent (inr over) = inr (λ l is. over_still l.label (over l is))

      refused : (label : List ℕ) (begun : KeptLabel) → is_owner client begun.owner ≡ true → begun.tid ≡ None → IsFoundOr label node.kept.labels one begun → is_refused state label ≡ true
      refused label begun own without (inl there) = held.refused label begun there own without
      refused label begun own without (inr last) = absurd (cc (sym own ∙ (ap (λ (b : KeptLabel). is_owner client b.owner) (sym last.0) ∙ other)))

      standing : (label : List ℕ) (begun : KeptLabel) (tid : Tid) → begun.tid ≡ Some tid → IsFoundOr label node.kept.labels one begun → is_refused state label ≡ false
      standing label begun tid of (inl there) = held.begun label begun tid there of
      standing label begun tid of (inr last) = ap (is_refused state) last.1 ∙ unrefused tid (ap (λ (b : KeptLabel). b.tid) last.0 ∙ of)

pub labels_amid : (course : CourseValue) (node : ForClients) (came : Option ClientNo) (client : ClientNo) (one : KeptLabel) → is_owner client one.owner ≡ false
    → ((state : ClientValue) → slice_get course.clients client.0 ≡ Some state → (tid : Tid) → one.tid ≡ Some tid → is_refused state one.label ≡ false) → ClientAmid course node came client → ClientAmid course (with_one one node) came client
labels_amid course node came client one other unrefused a = record {
  each = λ state there sits. by state there (a.each state there sits);
  ungiven = a.ungiven;
  idle = a.idle;
  seated = a.seated;
  waits = a.waits;
}
  where
    by : (state : ClientValue) → slice_get course.clients client.0 ≡ Some state → IsAmid node came client state → IsAmid (with_one one node) came client state
    by state there (inl held) = inl (label_grows node client one other state.left state (unrefused state there) held)
    by state there (inr (its, just)) = inr (its, record { line = just.line; first = just.first; there = just.there; held = label_grows (unhanded node) client one other state.left state (unrefused state there) just.held })

pub learns_keeps : LearnsKeeps
learns_keeps stamp before work label tid new came h =
    let one : KeptLabel = record { label = label; tid = Some tid; owner = None } in
    let course : CourseValue = course_amid stamp before work in
    goes stamp before work (did (d.Labels label tid) work) [] refl (sym (append-nil work.out.entries)) came came h tt
    (λ client. labels_amid course (clients_of work) came client one refl (λ state there t of. new.unrefused client state there) (h.on client))

-- ---- a line comes

module _ (stamp : ℕ) (before : CourseValue) (work : Work) (line : ScriptLine) (comes : ComesFirst (course_amid stamp before work) work.node line) (h : IsSaidSo stamp before None work) where
  abbrev course : CourseValue
  course = course_amid stamp before work

  abbrev node : ForClients
  node = clients_of work

  abbrev more : Commands
  more = insert_entry client_cmp work.node.commands line.client (fresh_command line)

  abbrev now : ForClients
  now = record node { in_hand = more }

  there : in_hand_of line.client more ≡ Some (fresh_command line)
  there = lookup_put client_cmp line.client (fresh_command line) (tied_itself nat_cmp_total line.client.0) work.node.commands

  others_same : (other : ClientNo) → (line.client.0 == other.0) ≡ false → in_hand_of other more ≡ in_hand_of other work.node.commands
  others_same other far = lookup_put_apart client_cmp line.client (fresh_command line) (λ x e. client_exact line.client x (rw e refl)) (is_at (client_cmp other)) (not_at line.client other far) work.node.commands

  bare_over : (label : List ℕ) → IsOver line.client node label → IsOver line.client (unhanded node) label
  bare_over label o = record { begun = o.begun; labelled = o.labelled; tid = o.tid; of = o.of; decided = o.decided; lent_before = o.lent_before }

  spent : (state : ClientValue) → IsSpent line.client node (first_of state.left) state.made → IsSpent line.client (unhanded node) (first_of state.left) state.made
  spent state (inl nothing) = inl nothing
  spent state (inr over) = inr (λ l is. bare_over l.label (over l is))

  -- what had nothing in hand has just what came
  bare : (state : ClientValue) → IsAmid node None line.client state → IsOnCourse (unhanded node) line.client state.left state
  bare state (inl held) = record { seat = held.seat; left = held.left; line = λ other is. absurd (cc is); made = λ other is. absurd (cc is); spent = λ gone. spent state (held.spent comes.free); loans = held.loans; refused = held.refused; begun = held.begun }
  bare state (inr (its, just)) = just.held

  pub just_came : (state : ClientValue) → slice_get course.clients line.client.0 ≡ Some state → JustCame now line.client state
  just_came state at = let same : comes.state ≡ state = some_same (sym comes.there ∙ at) in
      subst (JustCame now line.client) same
      (record { line = line; first = comes.first; there = there; held = bare comes.state ((h.on line.client).each comes.state comes.there comes.sits) })

  own : ClientAmid course now (Some line.client) line.client
  own = of_state course now (Some line.client) line.client comes.state (record {
    there = comes.there;
    sits = comes.sits;
    amid = inr (refl, just_came comes.state comes.there);
    ungiven = (h.on line.client).ungiven comes.state comes.there comes.sits;
    idle = (h.on line.client).idle comes.state comes.there comes.sits;
    waits = λ command issued is of. absurd (cc (ap (λ (c : OpenCommand). c.issued) (some_same (sym there ∙ is)) ∙ of));
  })

  recame : (other : ClientNo) → ClientAmid course now None other → ClientAmid course now (Some line.client) other
  recame other a = record { each = λ state at sits. by state (a.each state at sits); ungiven = a.ungiven; idle = a.idle; seated = a.seated; waits = a.waits }
    where
      by : (state : ClientValue) → IsAmid now None other state → IsAmid now (Some line.client) other state
      by state (inl held) = inl held
      by state (inr (its, just)) = absurd (cc its)

  pub comes_on : IsSaidSo stamp before (Some line.client) (did (d.Opens line) work)
  comes_on = goes stamp before work (did (d.Opens line) work) [] refl (sym (append-nil work.out.entries)) None (Some line.client) h tt (all_amid course now (Some line.client) line.client own
      (λ other far. recame other (amid_stays other node now (record { here = refl; inc = refl; in_hand = others_same other far; labels = λ label. refl; outcomes = λ tid decided found. (decided, found); loans = λ tid. refl; last = λ tid. refl })
      None course course refl (same_replies course course refl) (h.on other))))

pub comes_keeps : ComesKeeps
comes_keeps stamp before work line comes h = comes_on stamp before work line comes h

pub comes_just : ComesJust
comes_just stamp before work line comes h state there = just_came stamp before work line comes h state there

pub rests_keep : RestsKeep
rests_keep stamp before work line there left h = record { keeps = h.keeps; on = all_amid course node None client own (the_others course node (Some client) client (λ other is. some_same (sym is)) h.on) }
  where
    client : ClientNo
    client = line.client

    course : CourseValue
    course = course_amid stamp before work

    node : ForClients
    node = clients_of work

    a : ClientAmid course node (Some client) client
    a = h.on client

    own : ClientAmid course node None client
    own = record { each = λ state at sits. by state at sits (a.each state at sits); ungiven = a.ungiven; idle = a.idle; seated = a.seated; waits = a.waits }
      where
        nothing : (state : ClientValue) → slice_get course.clients client.0 ≡ Some state → is_seat state.seat node.here.0 ≡ true → JustCame node client state
            → (line.command ≡ commands.Take) ⊎ (IsOver client (unhanded node) line.label → ⊥) → state.made ≡ makes.Nothing
        nothing state at sits just (inl takes) = a.idle state at sits line (first_in node (Some client) client state (fresh_command line) (inr (refl, just)) there) takes
        nothing state at sits just (inr over) = just_unmade node client state line just (first_in node (Some client) client state (fresh_command line) (inr (refl, just)) there) over

        by : (state : ClientValue) → slice_get course.clients client.0 ≡ Some state → is_seat state.seat node.here.0 ≡ true → IsAmid node (Some client) client state → IsAmid node None client state
        by state at sits (inl held) = inl held
        by state at sits (inr (its, just)) = inl (on_course node (Some client) client state (inr (its, just)) (nothing state at sits just left))
