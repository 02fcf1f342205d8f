-- After a restart what is kept for clients is as the machine has it: what was left open is decided, and its owner may be told.
use Rattle.qs_world_lawful.proofs.Words.{◌≡◌, ◌⊎◌, inl, inr, ℕ, ◌++◌, Bool, true, false, List, [], ◌∷◌, Option, Some, None, fold, refl, sym, ap, subst, ◌∙◌, if◌then◌else◌, is_some, slice_get, find, same_tid-true, ClientNo, NodeNo, Outcome, Tid, same_node, Found, is_outcome_of, KeptLabel, Decided, BookValue, cell_of_transaction, find_transaction, with_transaction, abort_begun, begun_tid, commit_found, count_of, is_among, is_open_here, learn_found, member_at, record_at, up_to, vote_found}
use Rattle.qs_world_lawful.proofs.Words.{TransactionValue, found_at, is_open, is_outcome, with_learnt, Owner, Cell, Recovery, close_outcome, close_tid, is_left_open, outcome_in_log, HasEnded, IsOwner, MayBeTold, IsOfNow, Every, found_votes, HoldsKept, IsLeftOpen, IsOpenStill, and_parts, eqb-true, none_is}
use Rattle.qs_base.specs.declared.identifiers.Outcome.TheVariants as outcomes
use Rattle.qs_node_kept.specs.declared.kept.Kept.{Kept}
use Rattle.qs_book_machine.specs.Nodes as machine
use Rattle.qs_book_machine.specs.declared.transaction.Cell.TheVariants as cells
use Rattle.qs_ops.specs.Servers.{audit_no, extra_no, files_no}
use Rattle.qs_ops.specs.declared.answer.Cause.TheVariants as causes
use Rattle.qs_world_lawful.proofs.Restored.{found_new, owners_new, settled, with_found}
use Rattle.qs_world_lawful.proofs.RestartGoes.{Goes, IsElsewhere}
use Rattle.qs_world_lawful.proofs.RestartOwners.{HoldsOwner, may_still, owner_changed, owner_decided, owner_fold}
use Rattle.qs_world_lawful.proofs.RestoredTid.{Restarts, at_node, done_committed, goes, new, open_aborted}

-- ---- who may be told, through each part of a restart

module _ (tid : Tid) (d : Decided) where
  owner_if : (b : Bool) (x y : BookValue) → HoldsOwner tid d x → HoldsOwner tid d y → HoldsOwner tid d (if b then x else y)
  owner_if true x y p q = p
  owner_if false x y p q = q

  learn_owner : (here : ℕ) (t : Tid) (server : ℕ) (book : BookValue) → HoldsOwner tid d book → HoldsOwner tid d (learn_found here t server book)
  learn_owner here t server book h = owner_if (is_some (record_at here book t server)) (with_transaction t (with_learnt (member_at here server)) book) book (owner_changed tid t d (with_learnt (member_at here server)) (λ tx. refl) (λ tx. refl) book h) h

  commit_owner : (here : ℕ) → (is_outcome d.outcome cells.Commit ≡ true → (d.outcome ≡ outcomes.Commit) × (d.cause ≡ None)) → (book : BookValue) (t : Tid) → HoldsOwner tid d book → HoldsOwner tid d (commit_found here book t)
  commit_owner here fits book t h =
      let a = learn_found here t files_no book in
      let b = learn_found here t audit_no a in
      let c = learn_found here t extra_no b in
      let k : HoldsOwner tid d c = learn_owner here t extra_no b (learn_owner here t audit_no a (learn_owner here t files_no book h)) in
      owner_if (is_open_here here t (find_transaction c t)) _ c (owner_decided tid t d outcomes.Commit None c (λ same is. fits is) k) k

  vote_owner : (here inc : ℕ) (done : List Tid) (book : BookValue) (found : Found) → HoldsOwner tid d book → HoldsOwner tid d (vote_found here inc done book found)
  vote_owner here inc done book found h = by (is_among done found.tid)
    where
      f : TransactionValue → TransactionValue
      f = found_at (member_at here found.server.0) inc found.covers (count_of (record_at here book found.tid found.server.0))

      by : (b : Bool) → HoldsOwner tid d (if b then book else with_transaction found.tid f book)
      by true = h
      by false = owner_changed tid found.tid d f (λ tx. refl) (λ tx. refl) book h

  abort_owner : (here old : ℕ) → (is_outcome d.outcome cells.Abort ≡ true → (d.outcome ≡ outcomes.Abort) × (d.cause ≡ Some (causes.Home old))) → (book : BookValue) (seq : ℕ) → HoldsOwner tid d book → HoldsOwner tid d (abort_begun here old book seq)
  abort_owner here old fits book seq h = owner_if (is_open_here here (begun_tid here old seq) (find_transaction book (begun_tid here old seq))) _ book (owner_decided tid (begun_tid here old seq) d outcomes.Abort (Some (causes.Home old)) book (λ same is. fits is) h) h

module _ (book : BookValue) (here : NodeNo) (stamp inc : ℕ) (log : Recovery) (state : machine.NodeValue) (r : Restarts book here inc log state) where
  abbrev now : BookValue
  now = new book here stamp inc log state r

  abbrev mid : BookValue
  mid = with_found book here.0 stamp inc log state r.there

  -- an outcome that a restart may bring: commit, or abort as its home restarts
  abbrev Fits : Decided → Type 0
  Fits d = (is_outcome d.outcome cells.Commit ≡ true → (d.outcome ≡ outcomes.Commit) × (d.cause ≡ None)) × (is_outcome d.outcome cells.Abort ≡ true → (d.outcome ≡ outcomes.Abort) × (d.cause ≡ Some (causes.Home state.inc)))

  owner_now : (tid : Tid) (d : Decided) → Fits d → HoldsOwner tid d mid → HoldsOwner tid d now
  owner_now tid d fits h = moved (owner_fold tid d (abort_begun here.0 state.inc) (abort_owner tid d here.0 state.inc fits.1) (up_to state.begun) _
      (owner_fold tid d (vote_found here.0 inc log.committed) (vote_owner tid d here.0 inc log.committed) (found_votes log) _
      (owner_fold tid d (commit_found here.0) (commit_owner tid d here.0 fits.0) log.committed mid h)))
    where
      last : BookValue
      last = settled book here.0 stamp inc log state r.there

      moved : HoldsOwner tid d last → HoldsOwner tid d now
      moved k = record {
        has = λ tx client found owned. ap (λ (os : List Owner). is_some (slice_get os client.0)) (owners_new book here.0 stamp inc log state r.there) ∙ k.has tx client (sym (found_new book here.0 stamp inc log state r.there tid) ∙ found) owned;
        told_as = λ tx client found is owned. told client (k.told_as tx client (sym (found_new book here.0 stamp inc log state r.there tid) ∙ found) is owned);
      }
        where
          told : (client : ClientNo) → MayBeTold last client d → MayBeTold now client d
          told client m = record { owner = m.owner; there = ap (λ (os : List Owner). slice_get os client.0) (owners_new book here.0 stamp inc log state r.there) ∙ m.there; known = m.known }

  -- ---- what was left open

  outcome_is : (tid : Tid) → tid.home ≡ here → (o : IsOpenStill book tid) → HasEnded now tid (outcome_in_log log.committed tid)
  outcome_is tid home o = by (is_among log.committed tid) refl
    where
      p : (later : TransactionValue) × (find_transaction now tid ≡ Some later) × Goes here.0 (IsElsewhere here.0 inc) book.place tid o.tx later
      p = goes book here stamp inc log state r tid o.tx o.found

      cell_is : (c : Cell) → cell_of_transaction (find_transaction now tid) ≡ Some c → p.0.cell ≡ c
      cell_is c is = ap (λ (x : Option Cell). elim x [ None ↦ c | Some y ↦ y ]) (sym (ap cell_of_transaction p.1) ∙ is)

      open_then : (d : Decided) → HoldsOwner tid d mid
      open_then d = record {
        has = λ tx client found owned. o.owned client (same_tx tx found owned);
        told_as = λ tx client found is owned. absurd (never d.outcome o.tx.cell o.undecided (subst (λ (t : TransactionValue). is_outcome d.outcome t.cell ≡ true) (same tx found) is));
      }
        where
          same : (tx : TransactionValue) → find_transaction mid tid ≡ Some tx → tx ≡ o.tx
          same tx found = ap (λ (x : Option TransactionValue). elim x [ None ↦ o.tx | Some y ↦ y ]) (sym found ∙ o.found)

          same_tx : (tx : TransactionValue) {client : ClientNo} → find_transaction mid tid ≡ Some tx → tx.owner ≡ Some client → o.tx.owner ≡ Some client
          same_tx tx found owned = ap (λ (t : TransactionValue). t.owner) (sym (same tx found)) ∙ owned

          never : (x : Outcome) (c : Cell) → is_open c ≡ true → is_outcome x c ≡ true → ⊥
          never outcomes.Commit cells.Open u is = cc is
          never outcomes.Abort cells.Open u is = cc is
          never x cells.Commit u is = cc u
          never x cells.Abort u is = cc u

      now_of : IsOfNow state tid
      now_of = (at_node book here stamp inc log state r).open_now tid o.tx o.found home o.undecided

      by : (b : Bool) → is_among log.committed tid ≡ b
          → HasEnded now tid (if b then record { tid = tid; outcome = outcomes.Commit; cause = None } else record { tid = tid; outcome = outcomes.Abort; cause = Some (causes.Home tid.inc) })
      by true among = record {
        tx = p.0;
        found = p.1;
        as_kept = rw (cell_is cells.Commit (done_committed book here stamp inc log state r tid among)) refl;
        told = λ client owned. (owner_now tid d ((λ is. (refl, refl)), (λ is. absurd (cc is))) (open_then d)).told_as p.0 client p.1 (rw (cell_is cells.Commit (done_committed book here stamp inc log state r tid among)) refl) owned;
      }
        where
          d : Decided
          d = record { tid = tid; outcome = outcomes.Commit; cause = None }
      by false far = record {
        tx = p.0;
        found = p.1;
        as_kept = rw (cell_is cells.Abort aborted) refl;
        told = λ client owned. (owner_now tid d ((λ is. absurd (cc is)), (λ is. (refl, ap (λ (i : ℕ). Some (causes.Home i)) now_of.inc))) (open_then d)).told_as p.0 client p.1 (rw (cell_is cells.Abort aborted) refl) owned;
      }
        where
          d : Decided
          d = record { tid = tid; outcome = outcomes.Abort; cause = Some (causes.Home tid.inc) }

          aborted : cell_of_transaction (find_transaction now tid) ≡ Some cells.Abort
          aborted = open_aborted book here stamp inc log state r tid o.tx o.found home o.undecided far

  -- ---- what was ended

  pub ended_still : (tid : Tid) (d : Decided) → HasEnded book tid d → HasEnded now tid d
  ended_still tid d h =
      let p = goes book here stamp inc log state r tid h.tx h.found in
      record {
        tx = p.0;
        found = p.1;
        as_kept = subst (λ (c : Cell). is_outcome d.outcome c ≡ true) (sym (p.2.decided (shut d.outcome h.tx.cell h.as_kept))) h.as_kept;
        told = λ client owned. still client (h.told client (sym p.2.owner ∙ owned));
      }
    where
      shut : (x : Outcome) (c : Cell) → is_outcome x c ≡ true → is_open c ≡ false
      shut x cells.Commit is = refl
      shut x cells.Abort is = refl
      shut outcomes.Commit cells.Open is = absurd (cc is)
      shut outcomes.Abort cells.Open is = absurd (cc is)

      -- who may be told may be told still
      fold_told : {A : Type 0} (client : ClientNo) (f : BookValue → A → BookValue) → ((b : BookValue) (x : A) → MayBeTold b client d → MayBeTold (f b x) client d) → (xs : List A) (b : BookValue) → MayBeTold b client d → MayBeTold (fold f b xs) client d
      fold_told client f each [] b m = m
      fold_told client f each (x ∷ xs) b m = fold_told client f each xs (f b x) (each b x m)

      told_if : (c : Bool) (client : ClientNo) (x y : BookValue) → MayBeTold x client d → MayBeTold y client d → MayBeTold (if c then x else y) client d
      told_if true client x y p q = p
      told_if false client x y p q = q

      same_owners : (client : ClientNo) (x y : BookValue) → y.owners ≡ x.owners → MayBeTold x client d → MayBeTold y client d
      same_owners client x y same m = record { owner = m.owner; there = ap (λ (os : List Owner). slice_get os client.0) same ∙ m.there; known = m.known }

      learn_told : (client : ClientNo) (t : Tid) (server : ℕ) (b : BookValue) → MayBeTold b client d → MayBeTold (learn_found here.0 t server b) client d
      learn_told client t server b m = told_if (is_some (record_at here.0 b t server)) client (with_transaction t (with_learnt (member_at here.0 server)) b) b (same_owners client b (with_transaction t (with_learnt (member_at here.0 server)) b) refl m) m

      commit_told : (client : ClientNo) (b : BookValue) (t : Tid) → MayBeTold b client d → MayBeTold (commit_found here.0 b t) client d
      commit_told client b t m =
          let x = learn_found here.0 t files_no b in
          let y = learn_found here.0 t audit_no x in
          let z = learn_found here.0 t extra_no y in
          let k : MayBeTold z client d = learn_told client t extra_no y (learn_told client t audit_no x (learn_told client t files_no b m)) in
          told_if (is_open_here here.0 t (find_transaction z t)) client _ z (may_still t outcomes.Commit None z client d k) k

      vote_told : (client : ClientNo) (b : BookValue) (found : Found) → MayBeTold b client d → MayBeTold (vote_found here.0 inc log.committed b found) client d
      vote_told client b found m = by (is_among log.committed found.tid)
        where
          f : TransactionValue → TransactionValue
          f = found_at (member_at here.0 found.server.0) inc found.covers (count_of (record_at here.0 b found.tid found.server.0))

          by : (c : Bool) → MayBeTold (if c then b else with_transaction found.tid f b) client d
          by true = m
          by false = same_owners client b (with_transaction found.tid f b) refl m

      abort_told : (client : ClientNo) (b : BookValue) (seq : ℕ) → MayBeTold b client d → MayBeTold (abort_begun here.0 state.inc b seq) client d
      abort_told client b seq m = told_if (is_open_here here.0 (begun_tid here.0 state.inc seq) (find_transaction b (begun_tid here.0 state.inc seq))) client _ b (may_still (begun_tid here.0 state.inc seq) outcomes.Abort (Some (causes.Home state.inc)) b client d m) m

      still : (client : ClientNo) → MayBeTold book client d → MayBeTold now client d
      still client m = same_owners client (settled book here.0 stamp inc log state r.there) now (owners_new book here.0 stamp inc log state r.there)
          (fold_told client (abort_begun here.0 state.inc) (abort_told client) (up_to state.begun) _
          (fold_told client (vote_found here.0 inc log.committed) (vote_told client) (found_votes log) _
          (fold_told client (commit_found here.0) (commit_told client) log.committed mid (same_owners client book mid refl m))))

  -- ---- all that is kept

  module _ (kept : Kept) (h : HoldsKept here state.inc book kept) where
    -- the outcomes that are kept so far
    record Closes (os : List Decided) : Type 0 where
      ends : (tid : Tid) (d : Decided) → find (is_outcome_of tid) os ≡ Some d → HasEnded now tid d
      more : (tid : Tid) → find (is_outcome_of tid) os ≡ None → find (is_outcome_of tid) kept.outcomes ≡ None

    find_more : (tid : Tid) (os : List Decided) (x : Decided) (d : Decided) → find (is_outcome_of tid) (os ++ x ∷ []) ≡ Some d → (find (is_outcome_of tid) os ≡ Some d) ⊎ ((is_outcome_of tid x ≡ true) × (x ≡ d))
    find_more tid [] x d is = by (is_outcome_of tid x) refl is
      where
        by : (b : Bool) → is_outcome_of tid x ≡ b → (if b then Some x else None) ≡ Some d → (find (is_outcome_of tid) [] ≡ Some d) ⊎ ((is_outcome_of tid x ≡ true) × (x ≡ d))
        by true e same = inr (e, ap (λ (o : Option Decided). elim o [ None ↦ x | Some y ↦ y ]) same)
        by false e same = absurd (cc same)
    find_more tid (o ∷ os) x d is = by (is_outcome_of tid o) refl is (find_more tid os x d)
      where
        by : (b : Bool) → is_outcome_of tid o ≡ b → (if b then Some o else find (is_outcome_of tid) (os ++ x ∷ [])) ≡ Some d
            → (find (is_outcome_of tid) (os ++ x ∷ []) ≡ Some d → (find (is_outcome_of tid) os ≡ Some d) ⊎ ((is_outcome_of tid x ≡ true) × (x ≡ d)))
            → (find (is_outcome_of tid) (o ∷ os) ≡ Some d) ⊎ ((is_outcome_of tid x ≡ true) × (x ≡ d))
        by true e same rest = inl (rw e same)
        by false e same rest = rw e (rest same)

    find_less : (tid : Tid) (os more : List Decided) → find (is_outcome_of tid) (os ++ more) ≡ None → find (is_outcome_of tid) os ≡ None
    find_less tid [] more is = refl
    find_less tid (o ∷ os) more is = by (is_outcome_of tid o) refl is (find_less tid os more)
      where
        by : (b : Bool) → is_outcome_of tid o ≡ b → (if b then Some o else find (is_outcome_of tid) (os ++ more)) ≡ None → (find (is_outcome_of tid) (os ++ more) ≡ None → find (is_outcome_of tid) os ≡ None) → find (is_outcome_of tid) (o ∷ os) ≡ None
        by true e none rest = absurd (cc none)
        by false e none rest = rw e (rest none)

    close_one : (begun : KeptLabel) (os : List Decided) → IsLeftOpen here book kept.outcomes begun → Closes os → Closes (close_outcome here log.committed os begun)
    close_one begun os left c = by begun.tid refl
      where
        by : (o : Option Tid) → begun.tid ≡ o → Closes (close_tid here log.committed os o)
        by None is = c
        by (Some tid) is = of (is_left_open here os tid) refl
          where
            of : (b : Bool) → is_left_open here os tid ≡ b → Closes (if b then os ++ outcome_in_log log.committed tid ∷ [] else os)
            of false e = c
            of true e = record { ends = ends; more = λ t none. c.more t (find_less t os (outcome_in_log log.committed tid ∷ []) none) }
              where
                home : tid.home ≡ here
                home = ap (λ (x : ℕ). record { 0 = x }) (eqb-true tid.home.0 here.0 (and_parts (same_node tid.home here) _ e).0)

                still_open : IsOpenStill book tid
                still_open = left tid is home (c.more tid (none_is (find (is_outcome_of tid) os) (and_parts (same_node tid.home here) _ e).1))

                tid_of : (outcome_in_log log.committed tid).tid ≡ tid
                tid_of = at (is_among log.committed tid)
                  where
                    at : (b : Bool) → (if◌then◌else◌ {A = Decided} b (record { tid = tid; outcome = outcomes.Commit; cause = None }) (record { tid = tid; outcome = outcomes.Abort; cause = Some (causes.Home tid.inc) })).tid ≡ tid
                    at true = refl
                    at false = refl

                ends : (t : Tid) (d : Decided) → find (is_outcome_of t) (os ++ outcome_in_log log.committed tid ∷ []) ≡ Some d → HasEnded now t d
                ends t d found = way (find_more t os (outcome_in_log log.committed tid) d found)
                  where
                    way : (find (is_outcome_of t) os ≡ Some d) ⊎ ((is_outcome_of t (outcome_in_log log.committed tid) ≡ true) × (outcome_in_log log.committed tid ≡ d)) → HasEnded now t d
                    way (inl was) = c.ends t d was
                    way (inr is_new) = subst (HasEnded now t) is_new.1 (subst (λ (u : Tid). HasEnded now u (outcome_in_log log.committed tid)) (sym (same_tid-true t (outcome_in_log log.committed tid).tid is_new.0 ∙ tid_of)) (outcome_is tid home still_open))

    close_all : (begun : List KeptLabel) (os : List Decided) → Every (IsLeftOpen here book kept.outcomes) begun → Closes os → Closes (fold (close_outcome here log.committed) os begun)
    close_all [] os all c = c
    close_all (b ∷ begun) os all c = close_all begun (close_outcome here log.committed os b) all.1 (close_one b os all.0 c)

    -- an outcome that is kept then is that which it came to
    pub outcomes_held : (tid : Tid) (d : Decided) → find (is_outcome_of tid) (fold (close_outcome here log.committed) kept.outcomes kept.labels) ≡ Some d → HasEnded now tid d
    outcomes_held = (close_all kept.labels kept.outcomes h.undecided (record { ends = λ tid d found. ended_still tid d (h.outcomes tid d found); more = λ tid none. none })).ends

    -- and a label is its owner's
    pub owner_still : (tid : Tid) (client : ClientNo) → IsOwner book tid client → IsOwner now tid client
    owner_still tid client o =
        let p = goes book here stamp inc log state r tid o.tx o.found in
        record { tx = p.0; found = p.1; owns = p.2.owner ∙ o.owns }
