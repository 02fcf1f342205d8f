-- A client's open command is answered: the rule as a whole.
use Rattle.qs_world_lawful.proofs.Words.{◌≡◌, ◌≢◌, ◌⊎◌, inl, inr, ℕ, Bool, true, false, List, [], ◌∷◌, ◌++◌, Option, Some, None, Less, Equal, Greater, refl, sym, ap, subst, ◌∙◌, length, true≢false, slice_get, option_map, lookup, remove_entry, is_at, Ordering, tied_itself, nat_cmp_total, exact_unsigned, ClientNo, Tid, Answer, is_outcome, Cell, BookValue, find_transaction, changed_at, with_owner, waiting_of, is_known, Asking, Owner, changed_at_alike, changed_at_either, remove_rises, removed, Decided}
use Rattle.qs_world_lawful.proofs.Words.{OpenCommand, outcome_answer, Work, client_cmp, face_of, Holds, HoldsClients, IsBehind, HasEnded, MayBeTold, IsAsking, Participant, HoldsWork, book_at, is_seen}
use Rattle.qs_ops.specs.declared.answer.Answer.TheVariants as answers
use Rattle.qs_book_journal.specs.declared.entry.Act.TheVariants as acts
use Rattle.qs_node_step.specs.Bringing.{answer}
use Rattle.qs_node_step.specs.State.{NodeValue}
use Rattle.qs_tm.specs.Manager as tm
use Rattle.qs_world_lawful.proofs.OtherShares.{removed_apart}
use Rattle.qs_world_lawful.proofs.Frames.{seen, KeepsSeen, found_alike, owner_on, owner_back, held_on, known_on}
use Rattle.qs_world_lawful.proofs.Growing.{entered, book_with}
use Rattle.qs_world_lawful.proofs.Clauses.{may_answer}
use Rattle.qs_world_lawful.proofs.CrossedTables.{servers_alike}
use Rattle.qs_world_lawful.proofs.SameWaits.{crossings, seen_alike}
use Rattle.qs_world_lawful.proofs.Quiet.{waits_quiet, quiet, at_quiet, all_heard, heard_nodes, heard_owners}
use Rattle.qs_world_lawful.proofs.Steps.{next_again}

pub client_exact : (c d : ClientNo) → is_at (client_cmp c) d ≡ true → c ≡ d
client_exact c d = by (client_cmp c d) refl
  where
    by : (r : Ordering) → client_cmp c d ≡ r → is_at (client_cmp c) d ≡ true → c ≡ d
    by Less is h = absurd (cc (rw is at h))
    by Equal is h = ap (λ (n : ℕ). record { 0 = n }) (exact_unsigned c.0 d.0 is)
    by Greater is h = absurd (cc (rw is at h))

client_itself : (c : ClientNo) → is_at (client_cmp c) c ≡ true
client_itself c = rw (tied_itself nat_cmp_total c.0) refl

abbrev pub AreApart : ClientNo → ClientNo → Type 0
AreApart c d = (k : ClientNo) → is_at (client_cmp d) k ≡ true → is_at (client_cmp c) k ≡ false

pub same_client_or : (c d : ClientNo) → (c ≡ d) ⊎ ((c ≢ d) × AreApart c d)
same_client_or c d = by (is_at (client_cmp c) d) refl
  where
    turned : is_at (client_cmp c) d ≡ false → (k : ClientNo) → is_at (client_cmp d) k ≡ true → (b : Bool) → is_at (client_cmp c) k ≡ b → b ≡ false
    turned far k at false is = refl
    turned far k at true is = absurd (true≢false (sym (subst (λ (x : ClientNo). is_at (client_cmp c) x ≡ true) (sym (client_exact d k at)) is) ∙ far))

    by : (b : Bool) → is_at (client_cmp c) d ≡ b → (c ≡ d) ⊎ ((c ≢ d) × AreApart c d)
    by true is = inl (client_exact c d is)
    by false is = inr (λ same. true≢false (sym (subst (λ (x : ClientNo). is_at (client_cmp c) x ≡ true) same (client_itself c)) ∙ is), λ k at. turned is k at _ refl)

-- what a client may be told does not hang on its line
told_by : Owner → Owner
told_by owner = record owner { line = 0; waiting = [] }

of_told : (owner : Owner) (said : Answer) → is_known owner said ≡ is_known (told_by owner) said
unfolding told_by
of_told owner answers.Committed = refl
of_told owner (answers.Aborted cause) = refl
of_told owner answers.Done = refl
of_told owner (answers.Value text) = refl
of_told owner (answers.Left ticks) = refl
of_told owner (answers.Names list) = refl
of_told owner (answers.Notes list) = refl
of_told owner (answers.Busy holder) = refl
of_told owner answers.Absent = refl
of_told owner answers.TooMany = refl
of_told owner answers.TooLong = refl
of_told owner said = refl

module _ (stamp : ℕ) (before : BookValue) (work : Work) (client : ClientNo) (said : Answer) (h : HoldsWork stamp before work) (command : OpenCommand)
    (waits : lookup (is_at (client_cmp client)) work.node.commands ≡ Some command) where
  abbrev answered : NodeValue
  answered = record work.node { commands = remove_entry (is_at (client_cmp client)) work.node.commands }

  abbrev book : BookValue
  book = book_at stamp before work

  abbrev new_book : BookValue
  new_book = book_with stamp before work (acts.Answer client command.line.line said)

  abbrev asked : List Asking
  asked = waiting_of (slice_get book.owners client.0)

  abbrev lined : Owner → Owner
  lined owner = record owner { line = command.line.line; waiting = [] }

  abbrev started : BookValue
  started = with_owner client.0 lined book

  nodes : new_book.nodes ≡ book.nodes
  nodes = heard_nodes asked started

  owners : new_book.owners ≡ changed_at client.0 lined book.owners
  owners = heard_owners asked started

  seen_on : KeepsSeen book new_book
  seen_on t = all_heard seen (λ node inc tx. refl) asked started t

  quiet_on : (t : Tid) → option_map quiet (find_transaction new_book t) ≡ option_map quiet (find_transaction book t)
  quiet_on t = all_heard quiet (λ node inc tx. refl) asked started t

  told_on : (c : ClientNo) (decided : Decided) → MayBeTold book c decided → MayBeTold new_book c decided
  unfolding told_by
  told_on c decided k =
      let now = found_alike told_by (slice_get new_book.owners c.0) (slice_get book.owners c.0) k.owner (ap (λ (os : List Owner). option_map told_by (slice_get os c.0)) owners ∙ changed_at_alike told_by lined (λ o. refl) book.owners client.0 c.0) k.there in
      record { owner = now.0; there = now.1; known = of_told now.0 (outcome_answer decided) ∙ (ap (λ (o : Owner). is_known o (outcome_answer decided)) now.2 ∙ (sym (of_told k.owner (outcome_answer decided)) ∙ k.known)) }

  ended_on : (t : Tid) (decided : Decided) → HasEnded book t decided → HasEnded new_book t decided
  ended_on t decided e =
      let now = found_alike seen (find_transaction new_book t) (find_transaction book t) e.tx (seen_on t) e.found in
      record {
        tx = now.0;
        found = now.1;
        as_kept = subst (λ (c : Cell). is_outcome decided.outcome c ≡ true) (sym (ap (λ (p : Option ClientNo × Cell). p.1) now.2)) e.as_kept;
        told = λ c owns. told_on c decided (e.told c (sym (ap (λ (p : Option ClientNo × Cell). p.0) now.2) ∙ owns));
      }

  behind_on : (c : ClientNo) (line : ℕ) → (client ≢ c) → IsBehind book c line → IsBehind new_book c line
  behind_on c line far b = by (changed_at_either lined book.owners client.0 c.0 _ (h.holds.clients.lines client command waits).there)
    where
      there : slice_get (changed_at client.0 lined book.owners) c.0 ≡ slice_get book.owners c.0 → slice_get new_book.owners c.0 ≡ Some b.owner
      there same = ap (λ (os : List Owner). slice_get os c.0) owners ∙ (same ∙ b.there)

      by : ((c.0 ≡ client.0) × (slice_get book.owners c.0 ≡ Some (h.holds.clients.lines client command waits).owner) × (slice_get (changed_at client.0 lined book.owners) c.0 ≡ Some (lined (h.holds.clients.lines client command waits).owner))) ⊎ (slice_get (changed_at client.0 lined book.owners) c.0 ≡ slice_get book.owners c.0)
          → IsBehind new_book c line
      by (inl at) = absurd (far (sym (ap (λ (n : ℕ). record { 0 = n }) at.0)))
      by (inr same) = record { owner = b.owner; there = there same; less = b.less }

  -- a command that is there still is another's
  still : (c : ClientNo) (other : OpenCommand) → lookup (is_at (client_cmp c)) answered.commands ≡ Some other → (client ≢ c) × (lookup (is_at (client_cmp c)) work.node.commands ≡ Some other)
  still c other is = by (same_client_or client c)
    where
      gone : lookup (is_at (client_cmp client)) answered.commands ≡ None
      gone = removed client_cmp client_exact client work.node.commands h.holds.clients.apart

      clash : None ≡ Some other → ⊥
      clash e = cc e

      by : (client ≡ c) ⊎ ((client ≢ c) × AreApart client c) → (client ≢ c) × (lookup (is_at (client_cmp c)) work.node.commands ≡ Some other)
      by (inl same) = absurd (clash (sym gone ∙ subst (λ (x : ClientNo). lookup (is_at (client_cmp x)) answered.commands ≡ Some other) (sym same) is))
      by (inr far) = (far.0, sym (removed_apart (is_at (client_cmp client)) (is_at (client_cmp c)) far.1 work.node.commands) ∙ is)

  module _ (idle : (t : Tid) (part : Participant) → t.home ≡ work.node.setting.node → tm.part_of t work.node.manager ≡ Some part → part.outcome ≡ None → IsAsking work.node t client → ⊥) where
    asking_on : (t : Tid) (c : ClientNo) (part : Participant) → t.home ≡ work.node.setting.node → tm.part_of t work.node.manager ≡ Some part → part.outcome ≡ None → IsAsking work.node t c → IsAsking answered t c
    asking_on t c part near known unknown a = by (same_client_or client c)
      where
        by : (client ≡ c) ⊎ ((client ≢ c) × AreApart client c) → IsAsking answered t c
        by (inl same) = absurd (idle t part near known unknown (subst (λ (x : ClientNo). IsAsking work.node t x) (sym same) a))
        by (inr far) = record {
          command = a.command;
          waits = removed_apart (is_at (client_cmp client)) (is_at (client_cmp c)) far.1 work.node.commands ∙ a.waits;
          commits = a.commits;
          unissued = a.unissued;
          begun = a.begun;
          labelled = a.labelled;
          of = a.of;
          owned = a.owned;
        }

    clients : HoldsClients new_book answered
    clients = record {
      apart = remove_rises client_cmp (is_at (client_cmp client)) work.node.commands h.holds.clients.apart;
      lines = λ c other is. let was = still c other is in behind_on c other.line.line was.0 (h.holds.clients.lines c other was.1);
      labels = λ label begun t c is of owned. owner_on book new_book seen_on t c (h.holds.clients.labels label begun t c is of owned);
      outcomes = λ t decided is. ended_on t decided (h.holds.clients.outcomes t decided is);
      asking = λ t c part at is unknown asks owns. asking_on t c part at is unknown (h.holds.clients.asking t c part at is unknown asks (owner_back book new_book seen_on t c owns));
    }

    module _ (known : (owner : Owner) → slice_get book.owners client.0 ≡ Some owner → is_known owner said ≡ true) where
      held : Holds stamp new_book answered
      held = held_on stamp book new_book work.node answered h.holds (record { setting = refl; at = refl; in_inc = refl }) refl h.holds.state (record { up = refl; inc = refl; begun = refl; format = refl })
          (next_again stamp work.node.setting.node.0 book new_book refl refl h.holds.order)
          (ap length nodes) (ap (λ ns. slice_get ns work.node.setting.node.0) nodes ∙ h.holds.there)
          (known_on book new_book seen_on)
          (λ t. at_quiet work.node.setting.node work.node.setting.inc t (find_transaction book t) (find_transaction new_book t) (face_of work.node t) (quiet_on t) (h.holds.at t))
          clients
          (servers_alike (is_seen book work.node.setting.node) (is_seen new_book work.node.setting.node) h.holds.state work.node.servers (seen_alike book new_book work.node.setting.node (all_heard crossings (λ node inc tx. refl) asked started)) h.holds.servers)
          (λ t. waits_quiet work.node.setting.node work.node.setting.inc t (find_transaction book t) (find_transaction new_book t) (face_of work.node t).waiting work.node.servers (quiet_on t) (h.holds.waits t))

      by_waiting : HoldsWork stamp before (record work {
        node = answered;
        out = record work.out {
          answers = work.out.answers ++ record { client = client; answer = record { line = command.line.line; answer = said } } ∷ [];
          entries = work.out.entries ++ acts.Answer client command.line.line said ∷ [];
        };
      })
      by_waiting =
          let b = h.holds.clients.lines client command waits in
          entered stamp before work _ (acts.Answer client command.line.line said) h refl refl
          (may_answer stamp book work.node h.holds client command.line.line said b.owner b.there b.less (known b.owner b.there)) held

-- the client is told what it may be told, and does not wait for the commit of what is undecided here
pub by_due_answer : (stamp : ℕ) (before : BookValue) (work : Work) (client : ClientNo) (said : Answer) → HoldsWork stamp before work
    → ((owner : Owner) → slice_get (book_at stamp before work).owners client.0 ≡ Some owner → is_known owner said ≡ true)
    → ((t : Tid) (part : Participant) → t.home ≡ work.node.setting.node → tm.part_of t work.node.manager ≡ Some part → part.outcome ≡ None → IsAsking work.node t client → ⊥)
    → HoldsWork stamp before (answer client said work)
by_due_answer stamp before work client said h known idle = by (lookup (is_at (client_cmp client)) work.node.commands) refl
  where
    by : (o : Option OpenCommand) → lookup (is_at (client_cmp client)) work.node.commands ≡ o → HoldsWork stamp before (elim o [
      | None ↦ work
      | Some command ↦ record work {
        node = record work.node { commands = remove_entry (is_at (client_cmp client)) work.node.commands };
        out = record work.out {
          answers = work.out.answers ++ record { client = client; answer = record { line = command.line.line; answer = said } } ∷ [];
          entries = work.out.entries ++ acts.Answer client command.line.line said ∷ [];
        };
      }
    ])
    by None is = h
    by (Some command) is = by_waiting stamp before work client said h command is idle known

-- the client is told what it may be told, and does not wait for a commit
pub by_answer : (stamp : ℕ) (before : BookValue) (work : Work) (client : ClientNo) (said : Answer) → HoldsWork stamp before work
    → ((owner : Owner) → slice_get (book_at stamp before work).owners client.0 ≡ Some owner → is_known owner said ≡ true)
    → ((t : Tid) → IsAsking work.node t client → ⊥)
    → HoldsWork stamp before (answer client said work)
by_answer stamp before work client said h known idle = by_due_answer stamp before work client said h known (λ t part near is unknown a. idle t a)
