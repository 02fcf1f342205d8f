-- Files issue their note: to audit here or of another node, once for each count of changes, while commit is asked for.
use Rattle.qs_world_lawful.proofs.Words.{◌≡◌, ◌⊎◌, inl, inr, ℕ, ◌==◌, ◌+◌, ◌≤◌, ◌<◌, Bool, true, false, List, Option, Some, None, refl, sym, ap, subst, ◌∙◌, arith, length, nat_lt, true≢false, nat_tests, not, ◌&&◌, is_some, if◌then◌else◌, NodeNo, Tid, same_bytes-self, last_number, peer_of, same_node, BookValue, find_transaction, broken, TransactionValue, has_note, is_commit, Op, Note, issue_away, issue_here, local_count, next_local, Work, here, change_count, issue_note, awaits_note, has_noted}
use Rattle.qs_world_lawful.proofs.Words.{Outstanding, Participant, entry_of, HoldsWork, book_at, at_server, face_of, part_in, part_or_new, Holds, HoldsTid, next_to, ltb_some, eq-eqb, eqb-true, eqb-false}
use Rattle.qs_book_journal.specs.declared.entry.Act.TheVariants as acts
use Rattle.qs_book_machine.specs.Clauses.{files_count, is_note, is_note_due, note_here}
use Rattle.qs_book_machine.specs.Transaction.{part_of}
use Rattle.qs_node_servers.specs.Servers.{audit_no}
use Rattle.qs_node_step.specs.State.{NodeValue}
use Rattle.qs_node_step.specs.Voting.{note_text}
use Rattle.qs_tm.specs.Manager as tm
use Rattle.qs_tm.specs.Members as rules
use Rattle.qs_world_lawful.proofs.Clauses.{known_held, lawful_act, of_tid}
use Rattle.qs_world_lawful.proofs.Issuing.{number_is}
use Rattle.qs_world_lawful.proofs.IssuingAway.{by_issue_away}
use Rattle.qs_world_lawful.proofs.IssuingHere.{by_issue_here}

module _ (stamp : ℕ) (book : BookValue) (node : NodeValue) (h : Holds stamp book node) (tid : Tid) (tx : TransactionValue) (found : find_transaction book tid ≡ Some tx) (part : Participant) (known : tm.part_of tid node.manager ≡ Some part) where
  abbrev count : ℕ
  count = change_count tid node

  abbrev text : List ℕ
  text = note_text tid node.setting.node (change_count tid node)

  held : HoldsTid node.setting.node node.setting.inc tid tx (face_of node tid)
  held = of_tid stamp book node h tid tx found

  part_is : part_in (face_of node tid) ≡ part
  part_is = ap part_or_new known

  -- the machine counts as many changes
  counted_is : files_count node.setting.node.0 h.state tx ≡ count
  counted_is = ap (λ (inc : ℕ). (part_of tx (at_server node.setting.node rules.files_no) inc).pending) h.same.inc ∙ held.pending

  -- no note with that count was served
  unserved : 1 ≤ count → has_noted count part ≡ false → awaits_note part ≡ false → has_note tx (note_here node.setting.node.0 h.state text) ≡ false
  unserved some unnoted idle = ap (λ (inc : ℕ). has_note tx (record { node = node.setting.node; inc = inc; text = text })) h.same.inc ∙ by (has_note tx (record { node = node.setting.node; inc = node.setting.inc; text = text })) refl
    where
      neither : (has_noted count (part_in (face_of node tid)) ≡ true) ⊎ (awaits_note (part_in (face_of node tid)) ≡ true) → ⊥
      neither (inl is) = true≢false (sym (sym (ap (has_noted count) part_is) ∙ is) ∙ unnoted)
      neither (inr is) = true≢false (sym (sym (ap awaits_note part_is) ∙ is) ∙ idle)

      by : (b : Bool) → has_note tx (record { node = node.setting.node; inc = node.setting.inc; text = text }) ≡ b → b ≡ false
      by false is = refl
      by true is = absurd (neither (held.noted (known_held stamp book node h tid tx found (ap is_some known)) count some is))

  module _ (asked : part.asked ≡ true) (still : is_commit tx.cell ≡ false) (some : nat_lt 0 (change_count tid node) ≡ true) (unnoted : has_noted (change_count tid node) part ≡ false) (idle : awaits_note part ≡ false) where
    due : is_note_due node.setting.node.0 h.state tid tx (Note text) ≡ true
    due = subst (λ (n : ℕ). ((is_some tx.asked && nat_lt 0 n) && (is_note (note_text tid node.setting.node n) (Note text) && not (has_note tx (note_here node.setting.node.0 h.state (note_text tid node.setting.node n))))) ≡ true) (sym counted_is)
        (all _ _ _ _ (held.asked (ap (λ (p : Participant). p.asked) part_is ∙ asked)) some (same_bytes-self text) (unserved (ltb_some count some) unnoted idle))
      where
        all : (a b c d : Bool) → a ≡ true → b ≡ true → c ≡ true → d ≡ false → ((a && b) && (c && not d)) ≡ true
        all a b c d p q r s = rw (p, q, r, s) refl

    pub note_issues : (to : NodeNo) → nat_lt to.0 node.setting.nodes ≡ true
        → broken book (entry_of node.setting.node.0 stamp (acts.Issue tid (at_server node.setting.node rules.files_no) (record { node = to; server = audit_no }) (next_to node tid to) (Note text))) ≡ None
    note_issues to in_run =
        lawful_act stamp book node h (acts.Issue tid (at_server node.setting.node rules.files_no) (record { node = to; server = audit_no }) (next_to node tid to) (Note text)) (λ state. refl)
        (rw found (allowed _ _ _ _ _ _ still (eq-eqb _ _ (number_is stamp book node h tid tx found (record { node = to; server = audit_no }) still)) (subst (λ n. nat_lt to.0 n ≡ true) (sym h.run) in_run) (files_here node.setting.node.0) due))
      where
        clause : ℕ → Option ℕ
        clause n = Some n

        files_here : (n : ℕ) → ((n == n) && (0 == 0)) ≡ true
        files_here n = grind (arith, nat_tests)

        allowed : (a b d e f : Bool) (g : Option ℕ) → a ≡ false → b ≡ true → d ≡ true → e ≡ true → f ≡ true → (if not a && (b && (true && d)) then (if e then (if f then None else clause 22) else g) else clause 20) ≡ None
        allowed a b d e f g p q r s t = rw (p, q, r, s, t) refl

-- ---- the rule

module _ (stamp : ℕ) (before : BookValue) (work : Work) (h : HoldsWork stamp before work) (tid : Tid) (part : Participant) (tx : TransactionValue) (known : tm.part_of tid work.node.manager ≡ Some part) (found : find_transaction (book_at stamp before work) tid ≡ Some tx)
    (asked : part.asked ≡ true) (still : is_commit tx.cell ≡ false) (some : nat_lt 0 (change_count tid work.node) ≡ true) (unnoted : has_noted (change_count tid work.node) part ≡ false) (idle : awaits_note part ≡ false) where
  abbrev op : Op
  op = Note (note_text tid (here work) (change_count tid work.node))

  abbrev request : NodeNo → ℕ → Outstanding
  request to number = record { issuer = rules.files_no; member = record { node = to; server = audit_no }; number = number; count = change_count tid work.node }

  -- its number may be the next one to that node
  lawful_as : (to : NodeNo) → nat_lt to.0 work.node.setting.nodes ≡ true → (number : ℕ) → next_to work.node tid to ≡ number
      → broken (book_at stamp before work) (entry_of work.node.setting.node.0 stamp (acts.Issue tid (at_server work.node.setting.node rules.files_no) (record { node = to; server = audit_no }) number (Note (note_text tid (here work) (change_count tid work.node))))) ≡ None
  lawful_as to in_run number is =
      subst (λ (n : ℕ). broken (book_at stamp before work) (entry_of work.node.setting.node.0 stamp (acts.Issue tid (at_server work.node.setting.node rules.files_no) (record { node = to; server = audit_no }) n (Note (note_text tid (here work) (change_count tid work.node))))) ≡ None) is
      (note_issues stamp (book_at stamp before work) work.node h.holds tid tx found part known asked still some unnoted idle to in_run)

  pub by_note : (to : NodeNo) → nat_lt to.0 work.node.setting.nodes ≡ true → to.0 < length part.engage.peers → HoldsWork stamp before (issue_note tid (Some to) work)
  by_note to in_run slot = by (same_node to (here work)) refl
    where
      near : same_node to (here work) ≡ true → (b : Bool) → (local_count tid work.node == last_number) ≡ b
          → HoldsWork stamp before (elim (if b then None else Some (local_count tid work.node + 1)) [ None ↦ work | Some number ↦ issue_here tid (request to number) op work ])
      near is true full = h
      near is false room = by_issue_here stamp before work tid (request to (local_count tid work.node + 1)) op part tx h known found (ap (λ (n : ℕ). record { 0 = n }) (eqb-true to.0 work.node.setting.node.0 is)) refl refl
          (lawful_as to in_run (local_count tid work.node + 1) (ap (λ (b : Bool). if b then local_count tid work.node + 1 else (peer_of (part_in (face_of work.node tid)).engage to).sent + 1) is))

      far : same_node to (here work) ≡ false → (b : Bool) → ((peer_of part.engage to).sent == last_number) ≡ b
          → HoldsWork stamp before (elim (if b then None else Some ((peer_of part.engage to).sent + 1)) [ None ↦ work | Some number ↦ issue_away tid (request to number) op work ])
      far is true full = h
      far is false room = by_issue_away stamp before work tid (request to ((peer_of part.engage to).sent + 1)) op part tx h known found (eqb-false to.0 work.node.setting.node.0 is) room slot
          (lawful_as to in_run ((peer_of part.engage to).sent + 1)
          (ap (λ (b : Bool). if b then local_count tid work.node + 1 else (peer_of (part_in (face_of work.node tid)).engage to).sent + 1) is ∙ ap (λ (p : Participant). (peer_of p.engage to).sent + 1) (ap part_or_new known)))

      sent_as : tm.sent_as tid to work.node.manager ≡ (if (peer_of part.engage to).sent == last_number then None else Some ((peer_of part.engage to).sent + 1))
      sent_as = ap (λ (o : Option Participant). elim o [ None ↦ None | Some p ↦ (if (peer_of p.engage to).sent == last_number then None else Some ((peer_of p.engage to).sent + 1)) ]) known

      by : (b : Bool) → same_node to (here work) ≡ b
          → HoldsWork stamp before (elim (if b then next_local tid work.node else tm.sent_as tid to work.node.manager) [ None ↦ work | Some number ↦ if b then issue_here tid (request to number) op work else issue_away tid (request to number) op work ])
      by true is = near is (local_count tid work.node == last_number) refl
      by false is = subst (λ (o : Option ℕ). HoldsWork stamp before (elim o [ None ↦ work | Some number ↦ issue_away tid (request to number) op work ])) (sym sent_as) (far is ((peer_of part.engage to).sent == last_number) refl)
