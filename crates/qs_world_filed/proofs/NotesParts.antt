-- What a node knows of notes stays so through each entry, and as it changes what it knows of a transaction otherwise.
use Rattle.std.proofs.Common.{◌≡◌, ℕ, Bool, true, false, List, [], ◌∷◌, Option, Some, None, Less, Equal, Greater, refl, sym, subst}
use Rattle.std.specs.BTreeMap.{insert_entry, is_at}
use Rattle.std.specs.List.{filter, find}
use Rattle.std.specs.Map.{lookup, remove_entry, set_value}
use Rattle.std.specs.Prelude.{not}
use Rattle.std.specs.declared.cmp.Ordering.{Ordering}
use Rattle.qs_base.proofs.TidOrder.{tid_exact}
use Rattle.qs_base.specs.Order.{tid_cmp}
use Rattle.qs_base.specs.declared.identifiers.Member.{Member}
use Rattle.qs_base.specs.declared.identifiers.Tid.{Tid}
use Rattle.qs_base_lemmas.proofs.Tests.{some_same}
use Rattle.qs_book_journal.specs.declared.entry.Entry.{Entry}
use Rattle.qs_book_laws.proofs.Outcomes.{Inv}
use Rattle.qs_book_machine.specs.Book.{BookValue}
use Rattle.qs_book_machine.specs.Clauses.{link_to, note_text}
use Rattle.qs_book_machine.specs.Lawful.{broken, effect}
use Rattle.qs_node_step.specs.declared.setting.Setting.{Setting}
use Rattle.qs_tm.specs.Manager as tm
use Rattle.qs_tm.specs.Participant as participant
use Rattle.qs_tm.specs.Participant.{is_answered_by, is_by_files}
use Rattle.qs_tm.specs.declared.participant.Outstanding.{Outstanding}
use Rattle.qs_tm.specs.declared.participant.Participant.{Participant}
use Rattle.qs_world_lawful.specs.Logs.{Every}
use Rattle.qs_world_lawful.proofs.LogRecords.{every_append}
use Rattle.qs_world_filed.specs.Noting.{HasIssued, IssuedNotes, KnowsNotes, WasIssued, is_note_to}
use Rattle.qs_world_filed.proofs.RequestsStay.{one_stays}

-- ---- lists

pub every_so : {A : Type 0} (P Q : A → Type 0) → ((x : A) → P x → Q x) → (xs : List A) → Every P xs → Every Q xs
every_so P Q each [] all = tt
every_so P Q each (x ∷ xs) all = (each x all.0, every_so P Q each xs all.1)

every_left : {A : Type 0} (P : A → Type 0) (test : A → Bool) (xs : List A) → Every P xs → Every P (filter test xs)
every_left P test [] all = tt
every_left P test (x ∷ xs) all = by (test x) refl (every_left P test xs all.1)
  where
    by : (b : Bool) → test x ≡ b → Every P (filter test xs) → Every P (filter test (x ∷ xs))
    by true is rest = rw is (all.0, rest)
    by false is rest = rw is rest

pub found_so : {A : Type 0} (P : A → Type 0) (test : A → Bool) (xs : List A) (x : A) → Every P xs → find test xs ≡ Some x → P x
found_so P test [] x all found = absurd (cc found)
found_so P test (y ∷ ys) x all found = by (test y) refl found (found_so P test ys x all.1)
  where
    by : (b : Bool) → test y ≡ b → find test (y ∷ ys) ≡ Some x → (find test ys ≡ Some x → P x) → P x
    by true is found rest = subst P (some_same (rw is at found)) all.0
    by false is found rest = rest (rw is at found)

-- a transaction found is that one
pub tid_at : (tid t : Tid) → is_at (tid_cmp tid) t ≡ true → tid ≡ t
tid_at tid t on = by (tid_cmp tid t) refl
  where
    by : (r : Ordering) → tid_cmp tid t ≡ r → tid ≡ t
    by Less is = absurd (let off : is_at (tid_cmp tid) t ≡ false = rw is refl in cc (on, off))
    by Equal is = tid_exact tid t is
    by Greater is = absurd (let off : is_at (tid_cmp tid) t ≡ false = rw is refl in cc (on, off))

-- of what is known of transactions
module _ (P : Tid × Participant → Type 0) where
  pub parts_changed : (test : Tid → Bool) (f : Participant → Participant) (es : List (Tid × Participant)) → ((k : Tid) (v : Participant) → test k ≡ true → P (k, v) → P (k, f v)) → Every P es → Every P (tm.changed_value test f es)
  parts_changed test f es each all = by (lookup test es) refl
    where
      put : (xs : List (Tid × Participant)) (part : Participant) → lookup test xs ≡ Some part → Every P xs → Every P (set_value test xs (f part))
      put [] part found all = absurd (cc found)
      put (x ∷ xs) part found all = of (test x.0) refl found (λ found. put xs part found all.1)
        where
          of : (b : Bool) → test x.0 ≡ b → lookup test (x ∷ xs) ≡ Some part → (lookup test xs ≡ Some part → Every P (set_value test xs (f part))) → Every P (set_value test (x ∷ xs) (f part))
          of true is found rest = rw is (subst (λ (v : Participant). P (x.0, f v)) (some_same (rw is at found)) (each x.0 x.1 is all.0), all.1)
          of false is found rest = rw is (all.0, rest (rw is at found))

      by : (o : Option Participant) → lookup test es ≡ o → Every P (elim o [ None ↦ es | Some v ↦ set_value test es (f v) ])
      by None is = all
      by (Some part) is = put es part is all

  pub parts_put : (tid : Tid) (new : Participant) (es : List (Tid × Participant)) → ((k : Tid) → P (k, new)) → Every P es → Every P (insert_entry tid_cmp es tid new)
  parts_put tid new [] own all = (own tid, tt)
  parts_put tid new (e ∷ es) own all = by (tid_cmp tid e.0) refl (parts_put tid new es own all.1)
    where
      by : (r : Ordering) → tid_cmp tid e.0 ≡ r → Every P (insert_entry tid_cmp es tid new) → Every P (insert_entry tid_cmp (e ∷ es) tid new)
      by Less is rest = rw is (own tid, all)
      by Equal is rest = rw is (own e.0, all.1)
      by Greater is rest = rw is (all.0, rest)

  pub parts_removed : (test : Tid → Bool) (es : List (Tid × Participant)) → Every P es → Every P (remove_entry test es)
  parts_removed test [] all = tt
  parts_removed test (e ∷ es) all = by (test e.0) refl (parts_removed test es all.1)
    where
      by : (b : Bool) → test e.0 ≡ b → Every P (remove_entry test es) → Every P (remove_entry test (e ∷ es))
      by true is rest = rw is all.1
      by false is rest = rw is (all.0, rest)

  pub part_found : (test : Tid → Bool) (es : List (Tid × Participant)) (part : Participant) → Every P es → lookup test es ≡ Some part → (k : Tid) × ((test k ≡ true) × P (k, part))
  part_found test [] part all found = absurd (cc found)
  part_found test (e ∷ es) part all found = by (test e.0) refl found (part_found test es part all.1)
    where
      by : (b : Bool) → test e.0 ≡ b → lookup test (e ∷ es) ≡ Some part → (lookup test es ≡ Some part → (k : Tid) × ((test k ≡ true) × P (k, part))) → (k : Tid) × ((test k ≡ true) × P (k, part))
      by true is found rest = (e.0, (is, subst (λ (v : Participant). P (e.0, v)) (some_same (rw is at found)) all.0))
      by false is found rest = rest (rw is at found)

-- ---- an entry

module _ (setting : Setting) (book : BookValue) (entry : Entry) (i : Inv book) (fine : broken book entry ≡ None) where
  issued_on : (tid : Tid) (member : Member) (number count : ℕ) → HasIssued book setting tid member number count → HasIssued (effect book entry) setting tid member number count
  issued_on tid member number count h =
      (h.0, one_stays (record { link = link_to setting.node.0 member; number = number }) (is_note_to member setting.node setting.inc (note_text tid setting.node.0 count)) (λ r. refl) tid book entry i fine h.1)

  knows_on : (tid : Tid) (part : Participant) → KnowsNotes book setting tid part → KnowsNotes (effect book entry) setting tid part
  knows_on tid part k = record {
    waited = every_so (λ (request : Outstanding). is_by_files request ≡ true → HasIssued book setting tid request.member request.number request.count) (λ (request : Outstanding). is_by_files request ≡ true → HasIssued (effect book entry) setting tid request.member request.number request.count)
        (λ request its files. issued_on tid request.member request.number request.count (its files)) part.waiting k.waited;
    noted = every_so (WasIssued book setting tid) (WasIssued (effect book entry) setting tid) (λ count its. (its.0, (its.1.0, issued_on tid its.0 its.1.0 count its.1.1))) part.noted k.noted;
  }

  pub notes_on : (known : List (Tid × Participant)) → IssuedNotes book setting known → IssuedNotes (effect book entry) setting known
  notes_on known all = every_so (λ (e : Tid × Participant). KnowsNotes book setting e.0 e.1) (λ (e : Tid × Participant). KnowsNotes (effect book entry) setting e.0 e.1) (λ e k. knows_on e.0 e.1 k) known all

-- ---- a node changes what it knows

module _ (book : BookValue) (setting : Setting) where
  abbrev K : Tid × Participant → Type 0
  K entry = KnowsNotes book setting entry.0 entry.1

  -- neither what waits nor what is noted
  pub left_known : (tid : Tid) (p q : Participant) → q.waiting ≡ p.waiting → q.noted ≡ p.noted → KnowsNotes book setting tid p → KnowsNotes book setting tid q
  left_known tid p q waiting noted k = record {
    waited = subst (Every (λ (request : Outstanding). is_by_files request ≡ true → HasIssued book setting tid request.member request.number request.count)) (sym waiting) k.waited;
    noted = subst (Every (WasIssued book setting tid)) (sym noted) k.noted;
  }

  pub bare_known : (tid : Tid) (p : Participant) → p.waiting ≡ [] → p.noted ≡ [] → KnowsNotes book setting tid p
  bare_known tid p waiting noted = record {
    waited = subst (Every (λ (request : Outstanding). is_by_files request ≡ true → HasIssued book setting tid request.member request.number request.count)) (sym waiting) tt;
    noted = subst (Every (WasIssued book setting tid)) (sym noted) tt;
  }

  -- one more waits
  pub more_known : (tid : Tid) (request : Outstanding) (p : Participant) → (is_by_files request ≡ true → HasIssued book setting tid request.member request.number request.count) → KnowsNotes book setting tid p → KnowsNotes book setting tid (participant.issued request p)
  more_known tid request p its k = record { waited = every_append (λ (r : Outstanding). is_by_files r ≡ true → HasIssued book setting tid r.member r.number r.count) p.waiting (request ∷ []) k.waited (its, tt); noted = k.noted }

  -- a reply is taken
  pub fewer_known : (tid : Tid) (member : Member) (number : ℕ) (p : Participant) → KnowsNotes book setting tid p → KnowsNotes book setting tid (participant.drop_waiting member number p)
  fewer_known tid member number p k = record {
    waited = every_left (λ (r : Outstanding). is_by_files r ≡ true → HasIssued book setting tid r.member r.number r.count) (λ r. not (is_answered_by member number r)) p.waiting k.waited;
    noted = k.noted;
  }

  -- one more is noted
  pub noted_known : (tid : Tid) (count : ℕ) (p : Participant) → WasIssued book setting tid count → KnowsNotes book setting tid p → KnowsNotes book setting tid (participant.note_served count p)
  noted_known tid count p its k = record { waited = k.waited; noted = every_append (WasIssued book setting tid) p.noted (count ∷ []) k.noted (its, tt) }

  -- what waits for that reply was issued
  pub waits_issued : (tid : Tid) (member : Member) (number : ℕ) (request : Outstanding) (p : Participant) → KnowsNotes book setting tid p → participant.waiting_for member number p ≡ Some request → is_by_files request ≡ true → WasIssued book setting tid request.count
  waits_issued tid member number request p k waits files =
      (request.member, (request.number, found_so (λ (r : Outstanding). is_by_files r ≡ true → HasIssued book setting tid r.member r.number r.count) (is_answered_by member number) p.waiting request k.waited waits files))

  -- ---- of all

  pub all_left : (tid : Tid) (f : Participant → Participant) → ((p : Participant) → (f p).waiting ≡ p.waiting) → ((p : Participant) → (f p).noted ≡ p.noted) → (known : List (Tid × Participant)) → IssuedNotes book setting known → IssuedNotes book setting (tm.changed_value (is_at (tid_cmp tid)) f known)
  all_left tid f waiting noted known all = parts_changed K (is_at (tid_cmp tid)) f known (λ k v at its. left_known k v (f v) (waiting v) (noted v) its) all

  pub all_fewer : (tid : Tid) (member : Member) (number : ℕ) (known : List (Tid × Participant)) → IssuedNotes book setting known → IssuedNotes book setting (tm.changed_value (is_at (tid_cmp tid)) (participant.drop_waiting member number) known)
  all_fewer tid member number known all = parts_changed K (is_at (tid_cmp tid)) (participant.drop_waiting member number) known (λ k v at its. fewer_known k member number v its) all

  pub all_put : (tid : Tid) (new : Participant) → new.waiting ≡ [] → new.noted ≡ [] → (known : List (Tid × Participant)) → IssuedNotes book setting known → IssuedNotes book setting (insert_entry tid_cmp known tid new)
  all_put tid new waiting noted known all = parts_put K tid new known (λ k. bare_known k new waiting noted) all
