-- In the middle of a step: where what was entered so far is lawful, the node has issued the notes that it waits for or has noted.
use Rattle.std.proofs.Common.{◌≡◌, ◌∙◌, ℕ, Bool, true, false, List, [], ◌∷◌, ◌++◌, Option, Some, None, refl, sym, ap, subst, arith}
use Rattle.std.proofs.lemmas.Bool.Decides.{nat_tests}
use Rattle.std.specs.BTreeMap.{is_at}
use Rattle.std.specs.List.{list_any}
use Rattle.std.specs.Prelude.{⊤, ◌||◌, length, slice_get}
use Rattle.qs_base.proofs.Same.{same_bytes-self, same_member-self, same_tid-self}
use Rattle.qs_base.specs.Order.{same_tid, tid_cmp}
use Rattle.qs_base.specs.declared.identifiers.Member.{Member}
use Rattle.qs_base.specs.declared.identifiers.Tid.{Tid}
use Rattle.qs_book_journal.specs.declared.entry.Act.{Act}
use Rattle.qs_book_journal.specs.declared.entry.Act.TheVariants as acts
use Rattle.qs_book_journal.specs.declared.entry.Entry.{Entry}
use Rattle.qs_book_laws.proofs.Steps.{held, lawful_front, lawful_rest}
use Rattle.qs_book_laws.proofs.Turns.{Stands, step_turns}
use Rattle.qs_book_laws.specs.Lives.{is_restart}
use Rattle.qs_book_machine.specs.Book.{BookValue, find_transaction, inc_at}
use Rattle.qs_book_machine.specs.Clauses.{broken_issue, link_to, note_text}
use Rattle.qs_book_machine.specs.Lawful.{IsLawful, book_after, broken, broken_act, broken_at, effect, is_in_order}
use Rattle.qs_book_machine.specs.Nodes as machine
use Rattle.qs_book_machine.specs.Transaction.{TransactionValue, issued, requests_at}
use Rattle.qs_book_machine.specs.declared.transaction.Request.{Request}
use Rattle.qs_ops.specs.Servers.{files_no}
use Rattle.qs_ops.specs.declared.operation.Op.{Op}
use Rattle.qs_ops.specs.declared.operation.Op.TheVariants.{Note}
use Rattle.qs_node_step.specs.declared.setting.Setting.{Setting}
use Rattle.qs_tm.specs.Manager as tm
use Rattle.qs_tm.specs.Participant as participant
use Rattle.qs_tm.specs.Participant.{is_by_files}
use Rattle.qs_tm.specs.declared.participant.Outstanding.{Outstanding}
use Rattle.qs_tm.specs.declared.participant.Participant.{Participant}
use Rattle.qs_world.specs.Posting.{entries_of, entry_of}
use Rattle.qs_world_lawful.proofs.LastsOpening.{lasts_ran}
use Rattle.qs_world_lawful.proofs.LastsWell.{LastsWell}
use Rattle.qs_world_runs.proofs.PlacesGo.{inc_stays}
use Rattle.qs_world_filed.specs.Noting.{HasIssued, IsOfAudit, IssuedNotes, KnowsNotes, StandsIssued, is_note_to}
use Rattle.qs_world_filed.proofs.Going.{acts_more}
use Rattle.qs_world_filed.proofs.NotesParts.{more_known, notes_on, parts_changed, tid_at}
use Rattle.qs_world_filed.proofs.RequestsStay.{issued_own}
use Rattle.qs_world_filed.proofs.SetKept.{issue_fits, note_at_audit}

-- ---- a lawful issue

issue_known : (book : BookValue) (n stamp : ℕ) (tid : Tid) (issuer member : Member) (number : ℕ) (op : Op) → broken book (entry_of n stamp (acts.Issue tid issuer member number op)) ≡ None → Stands tid (λ tx. ⊤) book
issue_known book n stamp tid issuer member number op h = by (slice_get book.nodes n) (held (is_in_order book (entry_of n stamp (acts.Issue tid issuer member number op))) 1 _ h).1
  where
    of : (v : machine.NodeValue) (o : Option TransactionValue) → find_transaction book tid ≡ o → broken_issue n v (length book.nodes) tid o issuer member number op ≡ None → Stands tid (λ tx. ⊤) book
    of v None none k = absurd (cc k)
    of v (Some tx) found k = record { tx = tx; found = found; holds = tt }

    by : (o : Option machine.NodeValue) → broken_at book stamp n o (acts.Issue tid issuer member number op) ≡ None → Stands tid (λ tx. ⊤) book
    by None k = absurd (cc k)
    by (Some v) k = of v (find_transaction book tid) refl (held v.up 2 (broken_act book stamp n v (acts.Issue tid issuer member number op)) k).1

any_last : {A : Type 0} (p : A → Bool) (x : A) → p x ≡ true → (xs : List A) → list_any p (xs ++ x ∷ []) ≡ true
any_last p x is [] = rw is refl
any_last p x is (y ∷ ys) = by (p y) (any_last p x is ys)
  where
    by : (b : Bool) → list_any p (ys ++ x ∷ []) ≡ true → (b || list_any p (ys ++ x ∷ [])) ≡ true
    by true rest = refl
    by false rest = rest

pub any_both_off : (p : Act → Bool) (xs ys : List Act) → list_any p xs ≡ false → list_any p ys ≡ false → list_any p (xs ++ ys) ≡ false
any_both_off p [] ys none other = other
any_both_off p (x ∷ xs) ys none other = by (p x) none (λ rest. any_both_off p xs ys rest other)
  where
    by : (b : Bool) → (b || list_any p xs) ≡ false → (list_any p xs ≡ false → list_any p (xs ++ ys) ≡ false) → (b || list_any p (xs ++ ys)) ≡ false
    by true off rest = absurd (cc off)
    by false off rest = rest off

pub book_both : (book : BookValue) (es more : List Entry) → book_after book (es ++ more) ≡ book_after (book_after book es) more
book_both book [] more = refl
book_both book (e ∷ es) more = book_both (effect book e) es more

module _ (setting : Setting) (stamp : ℕ) (before : BookValue) (well : LastsWell before) (first : inc_at before (record { 0 = setting.node.0 }) ≡ setting.inc) where
  abbrev pub book_at : List Act → BookValue
  book_at done = book_after before (entries_of setting.node.0 stamp done)

  abbrev Known : BookValue → List (Tid × Participant) → Type 0
  Known book known = IssuedNotes book setting known

  pub record Amid (done : List Act) (known : List (Tid × Participant)) : Type 0 where
    pub notes : Known (book_at done) known
    pub still : list_any is_restart done ≡ false

  abbrev pub Noting : List Act → List (Tid × Participant) → Type 0
  Noting done known = IsLawful before (entries_of setting.node.0 stamp done) → Amid done known

  -- what is known changes
  pub known_on : (done : List Act) (old new : List (Tid × Participant)) → ((book : BookValue) → Known book old → Known book new) → Noting done old → Noting done new
  known_on done old new goes h lawful = record { notes = goes (book_at done) (h lawful).notes; still = (h lawful).still }

  -- an act is entered, and with it what is known may change
  pub act_with : (done : List Act) (act : Act) (old new : List (Tid × Participant)) → is_restart act ≡ false
      → ((book : BookValue) → LastsWell book → inc_at book (record { 0 = setting.node.0 }) ≡ setting.inc → broken book (entry_of setting.node.0 stamp act) ≡ None → Known (effect book (entry_of setting.node.0 stamp act)) old → Known (effect book (entry_of setting.node.0 stamp act)) new)
      → Noting done old → Noting (done ++ act ∷ []) new
  act_with done act old new ordinary goes h lawful = record {
    notes = subst (λ (b : BookValue). Known b new) (sym then_is) (goes now now_well (inc_stays setting.node.0 stamp done before a.still front ∙ first) fine (notes_on setting now entry now_well.inv fine old a.notes));
    still = any_both_off is_restart done (act ∷ []) a.still (rw ordinary refl);
  }
    where
      entry : Entry
      entry = entry_of setting.node.0 stamp act

      now : BookValue
      now = book_at done

      split : entries_of setting.node.0 stamp (done ++ act ∷ []) ≡ entries_of setting.node.0 stamp done ++ entry ∷ []
      split = acts_more setting.node.0 stamp done (act ∷ [])

      whole : IsLawful before (entries_of setting.node.0 stamp done ++ entry ∷ [])
      whole = subst (IsLawful before) split lawful

      front : IsLawful before (entries_of setting.node.0 stamp done)
      front = lawful_front (entries_of setting.node.0 stamp done) (entry ∷ []) before whole

      fine : broken now entry ≡ None
      fine = (lawful_rest (entries_of setting.node.0 stamp done) (entry ∷ []) before whole).0

      a : Amid done old
      a = h front

      now_well : LastsWell now
      now_well = lasts_ran (entries_of setting.node.0 stamp done) before well front

      then_is : book_at (done ++ act ∷ []) ≡ effect now entry
      then_is = ap (book_after before) split ∙ book_both before (entries_of setting.node.0 stamp done) (entry ∷ [])

  pub act_on : (done : List Act) (act : Act) (known : List (Tid × Participant)) → is_restart act ≡ false → Noting done known → Noting (done ++ act ∷ []) known
  act_on done act known ordinary h = act_with done act known known ordinary (λ book w i fine k. k) h

  -- a request is issued, and waits; of files it is their note
  pub issue_on : (done : List Act) (tid : Tid) (request : Outstanding) (op : Op) (known : List (Tid × Participant))
      → (is_by_files request ≡ true → (setting.audit ≡ Some request.member.node) × ((request.issuer.0 ≡ files_no) × (op ≡ Note (note_text tid setting.node.0 request.count))))
      → Noting done known → Noting (done ++ acts.Issue tid (record { node = setting.node; server = request.issuer }) request.member request.number op ∷ []) (tm.changed_value (is_at (tid_cmp tid)) (participant.issued request) known)
  issue_on done tid request op known its h = act_with done (acts.Issue tid issuer request.member request.number op) known _ refl
      (λ book w i fine k. parts_changed (λ (e : Tid × Participant). KnowsNotes (effect book (entry_of setting.node.0 stamp (acts.Issue tid issuer request.member request.number op))) setting e.0 e.1) (is_at (tid_cmp tid)) (participant.issued request) known
      (λ t v at knows. more_known (effect book (entry_of setting.node.0 stamp (acts.Issue tid issuer request.member request.number op))) setting t request v
      (λ files. subst (λ (u : Tid). HasIssued (effect book (entry_of setting.node.0 stamp (acts.Issue tid issuer request.member request.number op))) setting u request.member request.number request.count) (tid_at tid t at) (audited book fine (its files).0 (its files).1.1, stands book w i fine (its files).1.0 (its files).1.1)) knows) k) h
    where
      issuer : Member
      issuer = record { node = setting.node; server = request.issuer }

      -- to the audit of the audit node
      audited : (book : BookValue) → broken book (entry_of setting.node.0 stamp (acts.Issue tid issuer request.member request.number op)) ≡ None → setting.audit ≡ Some request.member.node → op ≡ Note (note_text tid setting.node.0 request.count) → IsOfAudit setting.audit request.member
      audited book fine audit note = (audit, note_at_audit op request.member (note_text tid setting.node.0 request.count, note) (issue_fits book setting.node.0 stamp tid issuer request.member request.number op fine))

      stands : (book : BookValue) → LastsWell book → inc_at book (record { 0 = setting.node.0 }) ≡ setting.inc → broken book (entry_of setting.node.0 stamp (acts.Issue tid issuer request.member request.number op)) ≡ None → request.issuer.0 ≡ files_no
          → op ≡ Note (note_text tid setting.node.0 request.count) → StandsIssued (effect book (entry_of setting.node.0 stamp (acts.Issue tid issuer request.member request.number op))) setting.node setting.inc tid request.member request.number request.count
      stands book w i fine files note = step_turns tid (λ tx. ⊤) Q book (entry_of setting.node.0 stamp (acts.Issue tid issuer request.member request.number op)) w.inv fine (record { own = λ same tx found p. own tx; other = λ apart tx p. absurd (far apart) })
          (issue_known book setting.node.0 stamp tid issuer request.member request.number op fine)
        where
          f : Request → Bool
          f = is_note_to request.member setting.node setting.inc (note_text tid setting.node.0 request.count)

          Q : TransactionValue → Type 0
          Q tx = list_any f (requests_at tx (record { link = link_to setting.node.0 request.member; number = request.number })) ≡ true

          made : Request
          made = record { issuer = issuer; member = request.member; op = op; inc = inc_at book (record { 0 = setting.node.0 }); served = false }

          is : f made ≡ true
          is = rw (same_member-self request.member, i, files, note, same_bytes-self (note_text tid setting.node.0 request.count)) (grind (arith, nat_tests))

          own : (tx : TransactionValue) → Q (issued (record { link = link_to setting.node.0 request.member; number = request.number }) made (inc_at book request.member.node) book.place tx)
          own tx = subst (λ (rs : List Request). list_any f rs ≡ true) (sym (issued_own (record { link = link_to setting.node.0 request.member; number = request.number }) made (inc_at book request.member.node) book.place tx)) (any_last f made is (requests_at tx (record { link = link_to setting.node.0 request.member; number = request.number })))

          far : same_tid tid tid ≡ false → ⊥
          far apart = let on : same_tid tid tid ≡ true = same_tid-self tid in cc (on, apart)
