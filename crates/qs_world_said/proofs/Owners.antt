-- The machine has as owner of what is under a label the client of the node that begins it: what is begun has its owner for good.
use Rattle.std.proofs.Common.{◌≡◌, ◌∙◌, ℕ, Bool, true, false, List, [], ◌∷◌, Option, Some, None, Equal, refl, sym, ap, subst}
use Rattle.std.specs.Prelude.{slice_get}
use Rattle.std.specs.BTreeMap.{is_at}
use Rattle.std.specs.Option.{option_map}
use Rattle.qs_base.specs.Order.{bytes_cmp, tid_cmp}
use Rattle.qs_base.specs.declared.identifiers.ClientNo.{ClientNo}
use Rattle.qs_base.specs.declared.identifiers.Tid.{Tid}
use Rattle.qs_base_lemmas.proofs.Tests.{some_same}
use Rattle.qs_book_journal.specs.declared.entry.Act.{Act}
use Rattle.qs_book_journal.specs.declared.entry.Act.TheVariants as acts
use Rattle.qs_book_journal.specs.declared.entry.Entry.{Entry}
use Rattle.qs_book_laws.proofs.Acts as of
use Rattle.qs_book_laws.proofs.Alikes.{at_exact, tid_itself}
use Rattle.qs_book_laws.proofs.Faces.{Alike, Face, face}
use Rattle.qs_book_laws.proofs.Maps.{changed_alike, lookup_put, lookup_put_apart}
use Rattle.qs_book_laws.proofs.Outcomes.{Inv, is_new}
use Rattle.qs_book_laws.proofs.Steps.{begin_may, held, stepped}
use Rattle.qs_book_laws.proofs.Words.{tid_exact}
use Rattle.qs_book_machine.specs.Book.{BookValue, begin, find_label, find_transaction, ticks_at}
use Rattle.qs_book_machine.specs.Lawful.{IsLawful, book_after, broken, broken_at, effect, effect_act, is_in_order}
use Rattle.qs_book_machine.specs.Nodes as machine
use Rattle.qs_book_machine.specs.Transaction.{TransactionValue, begun, decided_at}
use Rattle.qs_book_conformance.specs.Borrowing.{owns}
use Rattle.qs_node_step.specs.Step.{is_owner}
use Rattle.qs_world.specs.Posting.{entries_of, entry_of}
use Rattle.qs_world_lawful.specs.Aside.{IsOfStep}
use Rattle.qs_world_lawful.specs.Logs.{Every}
use Rattle.qs_world_said.specs.Hands.{Owns}
use Rattle.qs_world_said.specs.Naming.{AreOwned, BeginsAs, HoldsOwner}
use Rattle.qs_world_said.proofs.Labelled.{IsPlain, itself, plain_labels}
use Rattle.qs_world_said.proofs.Lookups.{exact_label}

-- ---- owners, after an act that begins nothing

abbrev pub KeepsOwners : BookValue → BookValue → Type 0
KeepsOwners old new = (tid : Tid) → option_map (λ (tx : TransactionValue). tx.owner) (find_transaction new tid) ≡ option_map (λ (tx : TransactionValue). tx.owner) (find_transaction old tid)

owner_seen : (o : Option TransactionValue) → option_map (λ (seen : Face). seen.owner) (option_map face o) ≡ option_map (λ (tx : TransactionValue). tx.owner) o
owner_seen None = refl
owner_seen (Some tx) = refl

pub by_alike : (old new : BookValue) → Alike old new → KeepsOwners old new
by_alike old new a tid = sym (owner_seen (find_transaction new tid)) ∙ (ap (option_map (λ (seen : Face). seen.owner)) (a.faces tid) ∙ owner_seen (find_transaction old tid))

pub plain_owners : (stamp here : ℕ) (act : Act) → IsPlain act → (book : BookValue) → KeepsOwners book (effect_act stamp here act book)
plain_owners stamp here (acts.Restart inc pend done) plain book = absurd plain
plain_owners stamp here (acts.Begin tid label client) plain book = absurd plain
plain_owners stamp here (acts.Issue tid issuer member number op) plain book = by_alike book _ (of.by_issue here tid issuer member number op book)
plain_owners stamp here (acts.Serve tid member from number reply) plain book = by_alike book _ (of.by_serve here tid member from number stamp reply book)
plain_owners stamp here (acts.Vote tid member ballot covers) plain book = by_alike book _ (of.by_vote here tid member ballot covers book)
plain_owners stamp here (acts.Ask tid) plain book = by_alike book _ (of.by_ask tid book)
plain_owners stamp here (acts.Counted tid peer up_to) plain book = by_alike book _ (of.by_count here tid peer up_to book)
plain_owners stamp here (acts.Decide tid outcome cause) plain book = λ t. changed_alike (is_at (tid_cmp tid)) (λ (tx : TransactionValue). tx.owner) (decided_at book.place outcome cause) (λ tx. refl) (is_at (tid_cmp t)) book.transactions
plain_owners stamp here (acts.Ending tid member) plain book = by_alike book _ (of.by_end here tid member book)
plain_owners stamp here (acts.Learn tid member outcome) plain book = by_alike book _ (of.by_learn here tid member outcome book)
plain_owners stamp here (acts.Answer client line said) plain book = by_alike book _ (of.by_answer client line book)
plain_owners stamp here (acts.Loan tid client) plain book = by_alike book _ (of.by_loan here tid client book)
plain_owners stamp here (acts.Yield tid client) plain book = by_alike book _ (of.by_yield here tid client book)
plain_owners stamp here acts.Tick plain book = by_alike book _ (of.by_tick here stamp book)
plain_owners stamp here (acts.Crash cause) plain book = by_alike book _ (of.by_crash here book)

owner_found : (o : Option TransactionValue) (owner : Option ClientNo) → option_map (λ (tx : TransactionValue). tx.owner) o ≡ Some owner → (tx : TransactionValue) × ((o ≡ Some tx) × (tx.owner ≡ owner))
owner_found None owner is = absurd (cc is)
owner_found (Some tx) owner is = (tx, (refl, some_same is))

module _ (own : Owns) where
  pub owner_stays : (old new : BookValue) → KeepsOwners old new → (label : List ℕ) (tid : Tid) → HoldsOwner own old label tid → HoldsOwner own new label tid
  owner_stays old new keeps label tid h = let f = owner_found (find_transaction new tid) h.tx.owner (keeps tid ∙ ap (option_map (λ (tx : TransactionValue). tx.owner)) h.found) in
      record { tx = f.0; found = f.1.0; owner = λ client sits. ap (λ (o : Option ClientNo). owns o client) f.1.1 ∙ h.owner client sits }

  module _ (here : ℕ) (node : machine.NodeValue) (tid : Tid) (label : List ℕ) (client : ClientNo) (book : BookValue) (inv : Inv book) (at : slice_get book.nodes here ≡ Some node)
      (next : (tx : TransactionValue) → find_transaction book tid ≡ Some tx → ⊥) (its : (c : ClientNo) → own.sits c ≡ true → owns (Some client) c ≡ is_owner c (own.begins label)) (h : AreOwned own book) where
    abbrev fresh : TransactionValue
    fresh = begun label client (ticks_at (slice_get book.nodes here))

    abbrev now : BookValue
    now = begin here tid label client book

    begun_here : (other : List ℕ) (t : Tid) → other ≡ label → tid ≡ t → HoldsOwner own now other t
    begun_here other t same is = subst (λ (u : Tid). HoldsOwner own now other u) is (record {
      tx = fresh;
      found = lookup_put tid_cmp tid fresh (tid_itself tid) book.transactions;
      owner = λ c sits. its c sits ∙ ap (λ (l : List ℕ). is_owner c (own.begins l)) (sym same);
    })

    begun_before : (other : List ℕ) (t : Tid) → HoldsOwner own book other t → HoldsOwner own now other t
    begun_before other t o = record { tx = o.tx; found = by (is_at (tid_cmp t) tid) refl; owner = o.owner }
      where
        by : (b : Bool) → is_at (tid_cmp t) tid ≡ b → find_transaction now t ≡ Some o.tx
        by true is = absurd (next o.tx (ap (find_transaction book) (sym (at_exact t tid is)) ∙ o.found))
        by false far = lookup_put_apart tid_cmp tid fresh (λ x. tid_exact tid x) (is_at (tid_cmp t)) far book.transactions ∙ o.found

    begin_owned : AreOwned own now
    begin_owned other t there = by (is_at (bytes_cmp other) label) refl
      where
        exact : (x : List ℕ) → bytes_cmp label x ≡ Equal → label ≡ x
        exact x e = exact_label label x (rw e refl)

        by : (b : Bool) → is_at (bytes_cmp other) label ≡ b → HoldsOwner own now other t
        by true is = let same = exact_label other label is in begun_here other t same (some_same (sym (lookup_put bytes_cmp label tid (itself label) book.labels) ∙ (ap (find_label now) (sym same) ∙ there)))
        by false far = begun_before other t (h other t (sym (lookup_put_apart bytes_cmp label tid exact (is_at (bytes_cmp other)) far book.labels) ∙ there))

  entry_owned : (book : BookValue) (entry : Entry) → Inv book → IsOfStep entry.act → BeginsAs own entry.act → broken book entry ≡ None → AreOwned own book → AreOwned own (effect book entry)
  entry_owned book entry inv of_step begins lawful h label tid there =
      let o = by entry.act of_step begins (held (is_in_order book entry) 1 (broken_at book entry.stamp entry.node.0 (slice_get book.nodes entry.node.0) entry.act) lawful).1 label tid there in
      record { tx = o.tx; found = o.found; owner = o.owner }
    where
      here : ℕ
      here = entry.node.0

      plain : (act : Act) → IsPlain act → AreOwned own (effect_act entry.stamp here act book)
      plain act is label tid there = owner_stays book (effect_act entry.stamp here act book) (plain_owners entry.stamp here act is book) label tid (h label tid (ap (λ ls. find_label (record book { labels = ls }) label) (sym (plain_labels entry.stamp here act is book)) ∙ there))

      begun_by : (o : Option machine.NodeValue) → slice_get book.nodes here ≡ o → (tid : Tid) (label : List ℕ) (client : ClientNo) → ((c : ClientNo) → own.sits c ≡ true → owns (Some client) c ≡ is_owner c (own.begins label)) → broken_at book entry.stamp here o (acts.Begin tid label client) ≡ None → AreOwned own (begin here tid label client book)
      begun_by None at tid label client its g = absurd (cc g)
      begun_by (Some node) at tid label client its g = let next = begin_may here node book.labels tid label (held node.up 2 _ g).1 in
          begin_owned here node tid label client book inv at (λ tx found. is_new book here node tid label client inv at next (face tx) (ap (λ (o : Option TransactionValue). option_map face o) found)) its h

      by : (act : Act) → IsOfStep act → BeginsAs own act → broken_at book entry.stamp here (slice_get book.nodes here) act ≡ None → AreOwned own (effect_act entry.stamp here act book)
      by (acts.Restart inc pend done) so begins g = absurd so
      by (acts.Begin tid label client) so begins g = begun_by (slice_get book.nodes here) refl tid label client begins g
      by act so begins g = plain act tt

  pub acts_owned : (here stamp : ℕ) (more : List Act) → Every IsOfStep more → Every (BeginsAs own) more → (book : BookValue) → Inv book → IsLawful book (entries_of here stamp more) → AreOwned own book → AreOwned own (book_after book (entries_of here stamp more))
  acts_owned here stamp [] of_step begins book inv lawful h = h
  acts_owned here stamp (act ∷ more) of_step begins book inv lawful h =
      acts_owned here stamp more of_step.1 begins.1 (effect book (entry_of here stamp act)) (stepped book (entry_of here stamp act) inv lawful.0).inv lawful.1 (entry_owned book (entry_of here stamp act) inv of_step.0 begins.0 lawful.0 h)
