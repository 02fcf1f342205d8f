-- A client commands a request to a server of its own node: the rule as a whole, of the owner and of a borrower.
use Rattle.qs_world_lawful.proofs.Words.{◌≡◌, ◌≢◌, ◌⊎◌, inl, inr, ℕ, ◌+◌, ◌==◌, Bool, true, false, List, [], ◌∷◌, Option, Some, None, zero, suc, refl, sym, ap, subst, ◌∙◌, arith, length, nat_lt, nat_tests, not, ◌&&◌, slice_get, cond, if◌then◌else◌, list_any, lookup, set_value, is_at, Ordering, ClientNo, Member, NodeNo, Tid, last_number, same_node, Op, lookup_changed, changed_apart, IsBelow, IsRising, TransactionValue, is_commit, BookValue, find_transaction, Outstanding, Participant, KeptLabel, Lent}
use Rattle.qs_world_lawful.proofs.Words.{client_server, with_issued, request_as, request_command, issue_here, local_count, next_local, next_number, label_at, Work, client_cmp, Issued, OpenCommand, face_of, is_loan_here, HoldsClients, IsBehind, IsOwner, IsAsking, HoldsWork, book_at, eq-eqb, some_same}
use Rattle.qs_base.specs.declared.identifiers.Outcome.TheVariants as outcomes
use Rattle.qs_ipc.specs.Queue as queues
use Rattle.qs_book_journal.specs.declared.script_line.Command.TheVariants as commands
use Rattle.qs_tm.specs.Manager as tm
use Rattle.qs_node_step.specs.State.{NodeValue}
use Rattle.qs_world_lawful.proofs.Answers.{AreApart, same_client_or}
use Rattle.qs_world_lawful.proofs.Commanding.{not_asking}
use Rattle.qs_world_lawful.proofs.Frames.{SameFace, held_on, at_none}
use Rattle.qs_world_lawful.proofs.Growing.{kept_on}
use Rattle.qs_world_lawful.proofs.IssuingByRules.{by_owner, by_borrower}

-- ---- entries whose keys rise, with another value at a key

module _ {K X : Type 0} (cmp : K → K → Ordering) (p : K → Bool) (w : X) where
  set_below : (x : K) (es : List (K × X)) → IsBelow cmp x es → IsBelow cmp x (set_value p es w)
  set_below x [] below = tt
  set_below x (e ∷ es) below = by (p e.0) (set_below x es below.1)
    where
      by : (b : Bool) → IsBelow cmp x (set_value p es w) → IsBelow cmp x (cond b ((e.0, w) ∷ es) (e ∷ set_value p es w))
      by true more = (below.0, below.1)
      by false more = (below.0, more)

  set_rises : (es : List (K × X)) → IsRising cmp es → IsRising cmp (set_value p es w)
  set_rises [] rising = tt
  set_rises (e ∷ es) rising = by (p e.0) (set_rises es rising.1)
    where
      by : (b : Bool) → IsRising cmp (set_value p es w) → IsRising cmp (cond b ((e.0, w) ∷ es) (e ∷ set_value p es w))
      by true more = (rising.0, rising.1)
      by false more = (set_below e.0 es rising.0, more)

-- what stands at a place stands below the length
place_below : {X : Type 0} (xs : List X) (i : ℕ) (x : X) → slice_get xs i ≡ Some x → nat_lt i (length xs) ≡ true
place_below [] i x is = absurd (cc is)
place_below (y ∷ ys) zero x is = first (length ys)
  where
    first : (n : ℕ) → nat_lt 0 (suc n) ≡ true
    first n = grind (arith, nat_tests)
place_below (y ∷ ys) (suc i) x is = up i (length ys) (place_below ys i x is)
  where
    up : (m n : ℕ) → nat_lt m n ≡ true → nat_lt (suc m) (suc n) ≡ true
    up m n e = grind (arith, nat_tests, e)

module _ (stamp : ℕ) (before : BookValue) (work : Work) (h : HoldsWork stamp before work) (client : ClientNo) (command : OpenCommand) (waits : lookup (is_at (client_cmp client)) work.node.commands ≡ Some command)
    (other : command.line.command ≡ commands.Commit → ⊥) where
  abbrev node : NodeValue
  node = work.node

  abbrev book : BookValue
  book = book_at stamp before work

  runs : nat_lt node.setting.node.0 node.setting.nodes ≡ true
  runs = subst (λ (n : ℕ). nat_lt node.setting.node.0 n ≡ true) h.holds.run (place_below book.nodes node.setting.node.0 h.holds.state h.holds.there)

  -- ---- a command that is no commit is noted as issued

  pub by_issued : (issued : Issued) → HoldsWork stamp before (with_issued client issued work)
  by_issued issued = kept_on stamp before work (with_issued client issued work) h refl refl
      (held_on stamp book book node new h.holds (record { setting = refl; at = refl; in_inc = refl }) refl h.holds.state (record { up = refl; inc = refl; begun = refl; format = refl })
      h.holds.order refl h.holds.there (λ t is. is) (at_none node.setting.node node.setting.inc book node new h.holds.at faces) clients h.holds.servers h.holds.waits)
    where
      its : ClientNo → Bool
      its = is_at (client_cmp client)

      new : NodeValue
      new = (with_issued client issued work).node

      changed : new.commands ≡ set_value its node.commands (record command { issued = Some issued })
      changed = ap (λ (o : Option OpenCommand). elim o [ None ↦ node.commands | Some v ↦ set_value its node.commands (record v { issued = Some issued }) ]) waits

      faces : (t : Tid) → SameFace (face_of node t) (face_of new t)
      faces t = record { known = refl; local = refl; changes = refl; loans = refl; waiting = λ s. refl }

      there : lookup its new.commands ≡ Some (record command { issued = Some issued })
      there = lookup_changed its (λ (v : OpenCommand). record v { issued = Some issued }) node.commands command waits

      apart : (c : ClientNo) → AreApart client c → lookup (is_at (client_cmp c)) new.commands ≡ lookup (is_at (client_cmp c)) node.commands
      apart c far = changed_apart its (is_at (client_cmp c)) far (λ (v : OpenCommand). record v { issued = Some issued }) node.commands

      lines_on : (c : ClientNo) (o : OpenCommand) → lookup (is_at (client_cmp c)) new.commands ≡ Some o → IsBehind book c o.line.line
      lines_on c o is = by (same_client_or client c)
        where
          by : (client ≡ c) ⊎ ((client ≢ c) × AreApart client c) → IsBehind book c o.line.line
          by (inl same) =
              let it : Some (record command { issued = Some issued }) ≡ Some o = sym there ∙ subst (λ (x : ClientNo). lookup (is_at (client_cmp x)) new.commands ≡ Some o) (sym same) is in
              subst (λ (x : ClientNo). IsBehind book x o.line.line) same (subst (λ (n : ℕ). IsBehind book client n) (ap (λ (x : OpenCommand). x.line.line) (some_same it)) (h.holds.clients.lines client command waits))
          by (inr far) = h.holds.clients.lines c o (sym (apart c far.1) ∙ is)

      asking_on : (t : Tid) (c : ClientNo) → IsAsking node t c → IsAsking new t c
      asking_on t c a = by (same_client_or client c)
        where
          by : (client ≡ c) ⊎ ((client ≢ c) × AreApart client c) → IsAsking new t c
          by (inl same) = absurd (not_asking node client command waits other t (subst (λ (x : ClientNo). IsAsking node t x) (sym same) a))
          by (inr far) = record { command = a.command; waits = apart c far.1 ∙ a.waits; commits = a.commits; unissued = a.unissued; begun = a.begun; labelled = a.labelled; of = a.of; owned = a.owned }

      clients : HoldsClients book new
      clients = record {
        apart = subst (λ (cs : List (ClientNo × OpenCommand)). IsRising client_cmp cs) (sym changed) (set_rises client_cmp its (record command { issued = Some issued }) node.commands h.holds.clients.apart);
        lines = lines_on;
        labels = h.holds.clients.labels;
        outcomes = h.holds.clients.outcomes;
        asking = λ t c part at is none asked owns. asking_on t c (h.holds.clients.asking t c part at is none asked owns);
      }

  module _ (tid : Tid) (member : Member) (op : Op) (near : member.node ≡ node.setting.node) (fits : queues.is_for member.server op ≡ true) where
    is_near : same_node member.node node.setting.node ≡ true
    is_near = eq-eqb member.node.0 node.setting.node.0 (ap (λ (n : NodeNo). n.0) near)

    -- the number, where there is one more
    numbered : (number : ℕ) → next_number tid member.node work ≡ Some number → number ≡ local_count tid node + 1
    numbered number is = by (local_count tid node == last_number) (sym local ∙ is)
      where
        local : next_number tid member.node work ≡ next_local tid node
        local = rw is_near refl

        by : (b : Bool) → (if b then None else Some (local_count tid node + 1)) ≡ Some number → number ≡ local_count tid node + 1
        by true e = absurd (cc e)
        by false e = sym (some_same e)

    abbrev as_issued : ℕ → Work
    as_issued number = with_issued client (record { tid = tid; member = member; number = number }) work

    abbrev request : ℕ → Outstanding
    request number = record { issuer = client_server client; member = member; number = number; count = 0 }

    -- where the entry of each number may stand, the command is issued
    command_by : ((number : ℕ) → number ≡ local_count tid node + 1 → HoldsWork stamp before (issue_here tid (request number) op (as_issued number))) → HoldsWork stamp before (request_command client tid member op work)
    command_by each = by (next_number tid member.node work) refl
      where
        as_here : (number : ℕ) (b : Bool) → b ≡ true → HoldsWork stamp before (issue_here tid (request number) op (as_issued number)) → (away : Work) → HoldsWork stamp before (if b then issue_here tid (request number) op (as_issued number) else away)
        as_here number true e held away = held
        as_here number false e held away = absurd (cc e)

        by : (o : Option ℕ) → next_number tid member.node work ≡ o → HoldsWork stamp before (elim o [ None ↦ work | Some number ↦ request_as client tid member op number work ])
        by None is = h
        by (Some number) is = as_here number (same_node member.node node.setting.node) is_near (each number (numbered number is)) _

    -- ---- of the owner, at the home, where no outcome is known

    module _ (part : Participant) (known : tm.part_of tid node.manager ≡ Some part) (begun : KeptLabel) (labelled : label_at command.line.label node ≡ Some begun) (of : begun.tid ≡ Some tid) (owned : begun.owner ≡ Some client) where
      pub by_owners_request : tid.home ≡ node.setting.node → tid.inc ≡ node.setting.inc → part.outcome ≡ None → HoldsWork stamp before (request_command client tid member op work)
      by_owners_request home inc unknown = command_by (λ number next. by_owner stamp before (as_issued number) tid (request number) op part its.tx (by_issued (record { tid = tid; member = member; number = number })) known its.found client refl near next fits runs its.owns home inc (unasked part.asked refl) unknown)
        where
          its : IsOwner book tid client
          its = h.holds.clients.labels command.line.label begun tid client labelled of owned

          unasked : (b : Bool) → part.asked ≡ b → part.asked ≡ false
          unasked false e = e
          unasked true e = absurd (not_asking node client command waits other tid (h.holds.clients.asking tid client part home known unknown e its))

    -- ---- of a borrower, whose loan stands

    module _ (part : Participant) (known : tm.part_of tid node.manager ≡ Some part) (tx : TransactionValue) (found : find_transaction book tid ≡ Some tx) where
      pub by_borrowers_request : nat_lt client.0 224 ≡ true → list_any (λ (loan : Lent). is_loan_here client node.setting.inc loan && not loan.yielded) (face_of node tid).loans ≡ true → part.outcome ≢ Some outcomes.Abort → is_commit tx.cell ≡ false
          → HoldsWork stamp before (request_command client tid member op work)
      by_borrowers_request small lent unaborted still = command_by (λ number next. by_borrower stamp before (as_issued number) tid (request number) op part tx (by_issued (record { tid = tid; member = member; number = number })) known found client refl near next fits runs small lent unaborted still)
