-- What the entries that other nodes make in a step leave of a transaction that began at a node, and of what its members did there; so a Commit in the log
-- of a node that is down is found still, where what it commits stays unanimous.
use Rattle.qs_world_lawful.proofs.Words.{◌≡◌, inl, inr, ℕ, ◌==◌, ◌&&◌, ◌||◌, Bool, true, false, List, [], ◌∷◌, Option, Some, None, is_some, refl, sym, ap, subst, ◌∙◌, Member, Tid, Entry, BookValue, find_transaction, IsLawful, book_after, broken, effect, is_among, is_committed, TransactionValue, is_commit, is_open, is_unanimous, Cell, Recovery, Every, IsCommitLogged, or-true, eqb-true, and_parts, apart_turned}
use Rattle.qs_book_machine.specs.Nodes as machine
use Rattle.qs_book_machine.specs.Transaction.{part_of}
use Rattle.qs_book_machine.specs.declared.transaction.Cell.TheVariants as cells
use Rattle.qs_world_lawful.specs.Aside.{StaysUnanimous}
use Rattle.qs_world_lawful.proofs.AsideBook.{Goes, cell_away, cell_shut, goes_on}
use Rattle.qs_world_lawful.proofs.AsideTid.{asked_on, part_same}
use Rattle.qs_world_lawful.proofs.LastsEntry.{lasts_on}
use Rattle.qs_world_lawful.proofs.LastsWell.{LastsWell}

pub record GoesAside (k : ℕ) (tid : Tid) (tx later : TransactionValue) : Type 0 where
  pub cell : tid.home.0 ≡ k → later.cell ≡ tx.cell
  pub shut : is_open tx.cell ≡ false → later.cell ≡ tx.cell
  pub asked : is_some tx.asked ≡ true → is_some later.asked ≡ true
  pub parts : (member : Member) (i : ℕ) → member.node.0 ≡ k → part_of later member i ≡ part_of tx member i

aside_self : (k : ℕ) (tid : Tid) (tx : TransactionValue) → GoesAside k tid tx tx
aside_self k tid tx = record { cell = λ home. refl; shut = λ is. refl; asked = λ is. is; parts = λ member i here. refl }

aside_then : (k : ℕ) (tid : Tid) (tx mid later : TransactionValue) → GoesAside k tid tx mid → GoesAside k tid mid later → GoesAside k tid tx later
aside_then k tid tx mid later a b = record {
  cell = λ home. b.cell home ∙ a.cell home;
  shut = λ is. b.shut (ap is_open (a.shut is) ∙ is) ∙ a.shut is;
  asked = λ is. b.asked (a.asked is);
  parts = λ member i here. b.parts member i here ∙ a.parts member i here;
}

module _ (book : BookValue) (entry : Entry) (w : LastsWell book) (h : broken book entry ≡ None) (k : ℕ) (far : (entry.node.0 == k) ≡ false) where
  one_aside : (tid : Tid) (tx later : TransactionValue) → Goes book entry w h tid tx later → GoesAside k tid tx later
  one_aside tid tx later g = record {
    cell = λ home. cell_away book entry w h tid tx later g (ap (λ (n : ℕ). n == entry.node.0) home ∙ apart_turned entry.node.0 k far);
    shut = λ is. cell_shut book entry w h tid tx later g is;
    asked = asked g;
    parts = parts g;
  }
    where
      asked : Goes book entry w h tid tx later → is_some tx.asked ≡ true → is_some later.asked ≡ true
      asked (inl same) is = ap (λ (x : TransactionValue). is_some x.asked) same ∙ is
      asked (inr (t, r)) is = asked_on entry.node.0 t.now book.place (record { 0 = k }) 0 tid tx later r (apart_turned entry.node.0 k far) is

      parts : Goes book entry w h tid tx later → (member : Member) (i : ℕ) → member.node.0 ≡ k → part_of later member i ≡ part_of tx member i
      parts (inl same) member i here = ap (λ (x : TransactionValue). part_of x member i) same
      parts (inr (t, r)) member i here = part_same entry.node.0 t.now book.place member.node i tid tx later r (ap (λ (n : ℕ). n == entry.node.0) here ∙ apart_turned entry.node.0 k far) member.server i

pub goes_aside : (k : ℕ) (entries : List Entry) (book : BookValue) → LastsWell book → IsLawful book entries → Every (λ (entry : Entry). (entry.node.0 == k) ≡ false) entries → (tid : Tid) (tx : TransactionValue) → find_transaction book tid ≡ Some tx
    → (later : TransactionValue) × (find_transaction (book_after book entries) tid ≡ Some later) × GoesAside k tid tx later
goes_aside k [] book w lawful far tid tx found = (tx, found, aside_self k tid tx)
goes_aside k (entry ∷ entries) book w lawful far tid tx found =
    let p = goes_on book entry w lawful.0 tid tx found in
    let q = goes_aside k entries (effect book entry) (lasts_on book entry w lawful.0) lawful.1 far.1 tid p.0 p.1 in
    (q.0, q.1, aside_then k tid tx p.0 q.0 (one_aside book entry w lawful.0 k far.0 tid tx p.0 p.2) q.2)

-- ---- a Commit in the log of a node that is down

module _ (k : ℕ) (book new : BookValue) (s : machine.NodeValue) (said : Recovery) (goes : (tid : Tid) (tx : TransactionValue) → find_transaction book tid ≡ Some tx → (later : TransactionValue) × (find_transaction new tid ≡ Some later) × GoesAside k tid tx later)
    (unanimous : StaysUnanimous k said book new) where
  shut : (c : Cell) → is_commit c ≡ true → is_open c ≡ false
  shut cells.Commit e = refl
  shut cells.Open e = absurd (cc e)
  shut cells.Abort e = refl

  commit_on : (tid : Tid) → is_among said.committed tid ≡ true → IsCommitLogged k book s tid → IsCommitLogged k new s tid
  commit_on tid among (inl is) = inl is
  commit_on tid among (inr is) = inr (by (find_transaction book tid) refl is)
    where
      by : (o : Option TransactionValue) → find_transaction book tid ≡ o → is_committed k tid o ≡ true → is_committed k tid (find_transaction new tid) ≡ true
      by None nothing e = absurd (cc e)
      by (Some tx) had e =
          let p = goes tid tx had in
          ap (is_committed k tid) p.1 ∙ of p.0 p.1 p.2 (is_commit tx.cell) refl
        where
          of : (next : TransactionValue) → find_transaction new tid ≡ Some next → GoesAside k tid tx next → (b : Bool) → is_commit tx.cell ≡ b → (is_commit next.cell || ((is_open next.cell && (tid.home.0 == k)) && is_unanimous next)) ≡ true
          of next found g true a = subst (λ (c : Cell). (is_commit c || ((is_open c && (tid.home.0 == k)) && is_unanimous next)) ≡ true) (sym (g.shut (shut tx.cell a))) (rw a refl)
          of next found g false a = subst (λ (c : Cell). (is_commit c || ((is_open c && (tid.home.0 == k)) && is_unanimous next)) ≡ true) (sym (g.cell (eqb-true tid.home.0 k one.1))) (rw (a, one.0, one.1) (unanimous tid tx next among had found (eqb-true tid.home.0 k one.1) one.0 two.1))
            where
              two : ((is_open tx.cell && (tid.home.0 == k)) ≡ true) × (is_unanimous tx ≡ true)
              two = and_parts (is_open tx.cell && (tid.home.0 == k)) (is_unanimous tx) (rw a at e)

              one : (is_open tx.cell ≡ true) × ((tid.home.0 == k) ≡ true)
              one = and_parts (is_open tx.cell) (tid.home.0 == k) two.0

  pub commits_on : Every (IsCommitLogged k book s) said.committed → Every (IsCommitLogged k new s) said.committed
  commits_on all = each said.committed (λ tid is. is) all
    where
      each : (tids : List Tid) → ((tid : Tid) → is_among tids tid ≡ true → is_among said.committed tid ≡ true) → Every (IsCommitLogged k book s) tids → Every (IsCommitLogged k new s) tids
      each [] sub all = tt
      each (t ∷ tids) sub all = (commit_on t (sub t (first t tids)) all.0, each tids (λ tid is. sub tid (behind tid t tids is)) all.1)
        where
          first : (t : Tid) (ts : List Tid) → is_among (t ∷ ts) t ≡ true
          first t ts = rw (Rattle.qs_base.proofs.Same.same_tid-self t) refl

          behind : (tid t : Tid) (ts : List Tid) → is_among ts tid ≡ true → is_among (t ∷ ts) tid ≡ true
          behind tid t ts is = rw is (or-true (Rattle.qs_base.specs.Order.same_tid tid t))
