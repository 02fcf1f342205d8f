-- What is on record of a node after a restart: the votes that were found, and nothing of what is committed in its log.
use Rattle.qs_world_lawful.proofs.Words.{◌≡◌, ◌⊎◌, inl, inr, ℕ, ◌==◌, ◌&&◌, ◌||◌, Bool, true, false, List, [], ◌∷◌, map, flat_map, Option, Some, None, fold, refl, sym, ap, subst, ◌∙◌, arith, if◌then◌else◌, nat_le, nat_tests, fold-append, slice_get, filter, list_any, lookup, remove_entry, insert_entry, is_at, same_tid, same_tid-self, same_tid-true, Tid, Found, voter_equal, voter_exact, voter_itself, lookup_put, lookup_put_apart, removed_none, removed_apart, IsRising, remove_rises, removed}
use Rattle.qs_world_lawful.proofs.Words.{BookValue, find_transaction, is_recoverable, record_of, voter, voter_cmp, is_among, is_found_as, is_new_vote, is_on_record, is_same_vote, new_vote, new_votes, votes_once, with_votes, without_records, OnRecord, Voter, Prepared, Recovery, names_transaction, open_vote, Every, found_of, found_votes, eqb-self, or_last, and_parts, not-true, or_right, eqb-true}
use Rattle.qs_book_machine.specs.Nodes as machine
use Rattle.qs_book_machine.specs.Nodes.{without_record}
use Rattle.qs_book_machine.specs.Restart.{new_votes_at, vote_as_stopped, voter_of, with_vote}
use Rattle.qs_world.specs.Moves as moves
use Rattle.qs_world_lawful.proofs.LogRecords.{every_filter, every_map}

-- ---- votes that are found, vote by vote of the log

pub found_of_all : (Q : Found → Type 0) (log : Recovery) → Every (λ (v : Prepared). Q (found_of v)) log.prepared → Every Q (found_votes log)
found_of_all Q log all = every_map (λ v. Q (moves.found_of v)) Q moves.found_of (λ v is. is) _
    (every_map (λ (v : Prepared). Q (found_of v)) (λ v. Q (moves.found_of v)) open_vote (λ v is. is) _
    (every_filter (λ (v : Prepared). Q (found_of v)) (λ (vote : Prepared). names_transaction vote.tid) log.prepared all))

pub all_of_found : (Q : Found → Type 0) (votes : List Prepared) → Every Q (map moves.found_of (map open_vote (filter (λ (vote : Prepared). names_transaction vote.tid) votes))) → Every (λ (v : Prepared). names_transaction v.tid ≡ true → Q (found_of v)) votes
all_of_found Q [] all = tt
all_of_found Q (v ∷ votes) all = by (names_transaction v.tid) refl all (all_of_found Q votes)
  where
    by : (b : Bool) → names_transaction v.tid ≡ b → Every Q (map moves.found_of (map open_vote (if b then v ∷ filter (λ (vote : Prepared). names_transaction vote.tid) votes else filter (λ (vote : Prepared). names_transaction vote.tid) votes)))
        → (Every Q (map moves.found_of (map open_vote (filter (λ (vote : Prepared). names_transaction vote.tid) votes))) → Every (λ (v : Prepared). names_transaction v.tid ≡ true → Q (found_of v)) votes)
        → Every (λ (v : Prepared). names_transaction v.tid ≡ true → Q (found_of v)) (v ∷ votes)
    by true named each rest = ((λ is. each.0), rest each.1)
    by false far each rest = ((λ is. absurd (cc (sym far ∙ is))), rest each)

-- ---- votes that go on record

module _ (here : ℕ) (book : BookValue) (state : machine.NodeValue) where
  abbrev nv : Found → List (Voter × OnRecord)
  nv found = new_vote here book state found

  abbrev is_new : Found → Bool
  is_new found = is_new_vote here state (find_transaction book found.tid) found

  -- another voter's
  abbrev IsFar : Voter → Found → Type 0
  IsFar at found = is_at (voter_cmp at) (voter_of found) ≡ false

  one_far : (f : Found) (w : machine.NodeValue) (at : Voter) → IsFar at f → lookup (is_at (voter_cmp at)) (with_votes (nv f) w).records ≡ lookup (is_at (voter_cmp at)) w.records
  one_far f w at far = by (is_new f)
    where
      by : (b : Bool) → lookup (is_at (voter_cmp at)) (with_votes (if b then (voter f.tid f.server.0, vote_as_stopped here book state f) ∷ [] else []) w).records ≡ lookup (is_at (voter_cmp at)) w.records
      by true = lookup_put_apart voter_cmp (voter f.tid f.server.0) (vote_as_stopped here book state f) (λ x e. voter_equal (voter f.tid f.server.0) x e) (is_at (voter_cmp at)) far w.records
      by false = refl

  split : (f : Found) (fs : List Found) (w : machine.NodeValue) → with_votes (flat_map nv (f ∷ fs)) w ≡ with_votes (flat_map nv fs) (with_votes (nv f) w)
  split f fs w = fold-append with_vote w (nv f) (flat_map nv fs)

  all_far : (fs : List Found) (w : machine.NodeValue) (at : Voter) → Every (IsFar at) fs → lookup (is_at (voter_cmp at)) (with_votes (flat_map nv fs) w).records ≡ lookup (is_at (voter_cmp at)) w.records
  all_far [] w at far = refl
  all_far (f ∷ fs) w at far = ap (λ (v : machine.NodeValue). lookup (is_at (voter_cmp at)) v.records) (split f fs w) ∙ (all_far fs (with_votes (nv f) w) at far.1 ∙ one_far f w at far.0)

  once_far : (f : Found) (fs : List Found) → list_any (is_same_vote f) fs ≡ false → Every (IsFar (voter_of f)) fs
  once_far f [] none = tt
  once_far f (g ∷ fs) none = (far, once_far f fs (or_last (is_same_vote f g) _ none))
    where
      or_left : (a b : Bool) → (a || b) ≡ false → a ≡ false
      or_left true b e = absurd (cc e)
      or_left false b e = refl

      far : IsFar (voter_of f) g
      far = by (is_at (voter_cmp (voter_of f)) (voter_of g)) refl
        where
          by : (b : Bool) → is_at (voter_cmp (voter_of f)) (voter_of g) ≡ b → is_at (voter_cmp (voter_of f)) (voter_of g) ≡ false
          by false e = e
          by true e =
              let same : voter_of f ≡ voter_of g = voter_exact (voter_of f) (voter_of g) e in
              absurd (cc (sym (or_left (is_same_vote f g) _ none) ∙ subst (λ (v : Voter). (same_tid v.tid f.tid && (v.server.0 == f.server.0)) ≡ true) same (rw (same_tid-self f.tid, eqb-self f.server.0) refl)))

  -- each is on record, or was; or something else holds of it
  module _ (Else : Found → Type 0) where
    abbrev Ok : Found → Type 0
    Ok f = ((is_on_record state f ≡ true) ⊎ (is_new f ≡ true)) ⊎ Else f

    abbrev Agrees : machine.NodeValue → Found → Type 0
    Agrees w f = record_of w f.tid f.server.0 ≡ record_of state f.tid f.server.0

    abbrev in_record : Found → Option OnRecord → Bool
    in_record f o = elim o [ None ↦ false | Some rec ↦ rec.covers == f.covers ]

    first : (f : Found) (w : machine.NodeValue) → Agrees w f → Ok f → (is_on_record (with_votes (nv f) w) f ≡ true) ⊎ Else f
    first f w agrees (inr other) = inr other
    first f w agrees (inl ok) = inl (by (is_new f) refl ok)
      where
        by : (b : Bool) → is_new f ≡ b → (is_on_record state f ≡ true) ⊎ (is_new f ≡ true) → is_on_record (with_votes (if b then (voter f.tid f.server.0, vote_as_stopped here book state f) ∷ [] else []) w) f ≡ true
        by true e ok = ap (in_record f) (lookup_put voter_cmp (voter f.tid f.server.0) (vote_as_stopped here book state f) (voter_itself (voter f.tid f.server.0)) w.records) ∙ eqb-self f.covers
        by false e (inl on) = ap (in_record f) agrees ∙ on
        by false e (inr new) = absurd (cc (sym e ∙ new))

    agrees_on : (f : Found) (w : machine.NodeValue) (fs : List Found) → list_any (is_same_vote f) fs ≡ false → Every (Agrees w) fs → Every (Agrees (with_votes (nv f) w)) fs
    agrees_on f w [] none all = tt
    agrees_on f w (g ∷ fs) none all = (one_far f w (voter_of g) (turned (once_far f (g ∷ fs) none).0) ∙ all.0, agrees_on f w fs (or_last (is_same_vote f g) _ none) all.1)
      where
        turned : IsFar (voter_of f) g → IsFar (voter_of g) f
        turned far = by (is_at (voter_cmp (voter_of g)) (voter_of f)) refl
          where
            by : (b : Bool) → is_at (voter_cmp (voter_of g)) (voter_of f) ≡ b → is_at (voter_cmp (voter_of g)) (voter_of f) ≡ false
            by false e = e
            by true e =
                let same : voter_of g ≡ voter_of f = voter_exact (voter_of g) (voter_of f) e in
                absurd (cc (sym far ∙ subst (λ (v : Voter). is_at (voter_cmp (voter_of f)) v ≡ true) (sym same) (rw (voter_itself (voter_of f)) refl)))

    pub on_record_all : (fs : List Found) (w : machine.NodeValue) → votes_once fs ≡ true → Every (Agrees w) fs → Every Ok fs → Every (λ (f : Found). (is_on_record (with_votes (flat_map nv fs) w) f ≡ true) ⊎ Else f) fs
    on_record_all [] w once agrees ok = tt
    on_record_all (f ∷ fs) w once agrees ok = subst (λ (v : machine.NodeValue). Every (λ (g : Found). (is_on_record v g ≡ true) ⊎ Else g) (f ∷ fs)) (sym (split f fs w))
        (own (first f w agrees.0 ok.0), on_record_all fs (with_votes (nv f) w) (and_parts _ (votes_once fs) once).1 (agrees_on f w fs apart agrees.1) ok.1)
      where
        apart : list_any (is_same_vote f) fs ≡ false
        apart = not-true (list_any (is_same_vote f) fs) (and_parts _ (votes_once fs) once).0

        own : (is_on_record (with_votes (nv f) w) f ≡ true) ⊎ Else f → (is_on_record (with_votes (flat_map nv fs) (with_votes (nv f) w)) f ≡ true) ⊎ Else f
        own (inr other) = inr other
        own (inl is) = inl (ap (in_record f) (all_far fs (with_votes (nv f) w) (voter_of f) (once_far f fs apart)) ∙ is)

  -- what is on record was so, or is found
  pub record_was : (fs : List Found) (w : machine.NodeValue) (at : Voter) (rec : OnRecord) → lookup (is_at (voter_cmp at)) (with_votes (flat_map nv fs) w).records ≡ Some rec → (lookup (is_at (voter_cmp at)) w.records ≡ Some rec) ⊎ (list_any (is_found_as at rec.covers) fs ≡ true)
  record_was [] w at rec is = inl is
  record_was (f ∷ fs) w at rec is = by (record_was fs (with_votes (nv f) w) at rec (ap (λ (v : machine.NodeValue). lookup (is_at (voter_cmp at)) v.records) (sym (split f fs w)) ∙ is))
    where
      or_first : (a b : Bool) → a ≡ true → (a || b) ≡ true
      or_first true b e = refl
      or_first false b e = absurd (cc e)

      one : (b : Bool) → is_new f ≡ b → lookup (is_at (voter_cmp at)) (with_votes (if b then (voter f.tid f.server.0, vote_as_stopped here book state f) ∷ [] else []) w).records ≡ Some rec → (lookup (is_at (voter_cmp at)) w.records ≡ Some rec) ⊎ (list_any (is_found_as at rec.covers) (f ∷ fs) ≡ true)
      one false e had = inl had
      one true e had = of (is_at (voter_cmp at) (voter_of f)) refl
        where
          low : (n : ℕ) → nat_le n n ≡ true
          low n = grind (arith, nat_tests)

          of : (b : Bool) → is_at (voter_cmp at) (voter_of f) ≡ b → (lookup (is_at (voter_cmp at)) w.records ≡ Some rec) ⊎ (list_any (is_found_as at rec.covers) (f ∷ fs) ≡ true)
          of false far = inl (sym (lookup_put_apart voter_cmp (voter f.tid f.server.0) (vote_as_stopped here book state f) (λ x e. voter_equal (voter f.tid f.server.0) x e) (is_at (voter_cmp at)) far w.records) ∙ had)
          of true near = inr (or_first (is_found_as at rec.covers f) _ found)
            where
              same : at ≡ voter_of f
              same = voter_exact at (voter_of f) near

              rec_is : rec ≡ vote_as_stopped here book state f
              rec_is = ap (λ (o : Option OnRecord). elim o [ None ↦ rec | Some x ↦ x ]) (sym had ∙ subst (λ (v : Voter). lookup (is_at (voter_cmp v)) (insert_entry voter_cmp w.records (voter_of f) (vote_as_stopped here book state f)) ≡ Some (vote_as_stopped here book state f)) (sym same) (lookup_put voter_cmp (voter_of f) (vote_as_stopped here book state f) (voter_itself (voter_of f)) w.records))

              found : is_found_as at rec.covers f ≡ true
              found = rw (same, rec_is, same_tid-self f.tid, eqb-self f.server.0) (low f.covers)

      by : (lookup (is_at (voter_cmp at)) (with_votes (nv f) w).records ≡ Some rec) ⊎ (list_any (is_found_as at rec.covers) fs ≡ true) → (lookup (is_at (voter_cmp at)) w.records ≡ Some rec) ⊎ (list_any (is_found_as at rec.covers) (f ∷ fs) ≡ true)
      by (inr found) = inr (or_right (is_found_as at rec.covers f) _ found)
      by (inl had) = one (is_new f) refl had

-- the votes that are new, as a restart reads them
pub new_votes_are : (here : ℕ) (book : BookValue) (state : machine.NodeValue) (pend : List Found) → slice_get book.nodes here ≡ Some state → new_votes here book pend ≡ flat_map (new_vote here book state) pend
new_votes_are here book state pend there = ap (λ (o : Option machine.NodeValue). new_votes_at here book o pend) there

-- ---- records that are gone

removed_was : (at other : Voter) (es : List (Voter × OnRecord)) (rec : OnRecord) → lookup (is_at (voter_cmp at)) (remove_entry (is_at (voter_cmp other)) es) ≡ Some rec → IsRising voter_cmp es → lookup (is_at (voter_cmp at)) es ≡ Some rec
removed_was at other es rec is rising = by (is_at (voter_cmp other) at) refl
  where
    by : (b : Bool) → is_at (voter_cmp other) at ≡ b → lookup (is_at (voter_cmp at)) es ≡ Some rec
    by true same =
        let e : other ≡ at = voter_exact other at same in
        absurd (cc (sym (removed voter_cmp voter_exact at es rising) ∙ subst (λ (v : Voter). lookup (is_at (voter_cmp at)) (remove_entry (is_at (voter_cmp v)) es) ≡ Some rec) e is))
    by false far = sym (removed_apart (is_at (voter_cmp other)) (is_at (voter_cmp at)) (λ x at_x. subst (λ (v : Voter). is_at (voter_cmp other) v ≡ false) (voter_exact at x at_x) far) es) ∙ is

pub forgot_rises : (done : List Tid) (v : machine.NodeValue) → IsRising voter_cmp v.records → IsRising voter_cmp (fold without_records v done).records
forgot_rises [] v rising = rising
forgot_rises (t ∷ done) v rising = forgot_rises done (without_records v t) (remove_rises voter_cmp (is_at (voter_cmp (voter t 6))) _ (remove_rises voter_cmp (is_at (voter_cmp (voter t 1))) _ (remove_rises voter_cmp (is_at (voter_cmp (voter t 0))) v.records rising)))

pub forgot_was : (done : List Tid) (v : machine.NodeValue) (at : Voter) (rec : OnRecord) → IsRising voter_cmp v.records → lookup (is_at (voter_cmp at)) (fold without_records v done).records ≡ Some rec → lookup (is_at (voter_cmp at)) v.records ≡ Some rec
forgot_was [] v at rec rising is = is
forgot_was (t ∷ done) v at rec rising is =
    let first : IsRising voter_cmp (without_record t 0 v).records = remove_rises voter_cmp (is_at (voter_cmp (voter t 0))) v.records rising in
    let second : IsRising voter_cmp (without_record t 1 (without_record t 0 v)).records = remove_rises voter_cmp (is_at (voter_cmp (voter t 1))) (without_record t 0 v).records first in
    let third : IsRising voter_cmp (without_records v t).records = remove_rises voter_cmp (is_at (voter_cmp (voter t 6))) (without_record t 1 (without_record t 0 v)).records second in
    removed_was at (voter t 0) v.records rec
    (removed_was at (voter t 1) (without_record t 0 v).records rec
    (removed_was at (voter t 6) (without_record t 1 (without_record t 0 v)).records rec (forgot_was done (without_records v t) at rec third is) second) first) rising

none_stays : (done : List Tid) (v : machine.NodeValue) (at : Voter) → lookup (is_at (voter_cmp at)) v.records ≡ None → lookup (is_at (voter_cmp at)) (fold without_records v done).records ≡ None
none_stays [] v at none = none
none_stays (t ∷ done) v at none = none_stays done (without_records v t) at
    (removed_none (is_at (voter_cmp (voter t 6))) (is_at (voter_cmp at)) (without_record t 1 (without_record t 0 v)).records
    (removed_none (is_at (voter_cmp (voter t 1))) (is_at (voter_cmp at)) (without_record t 0 v).records
    (removed_none (is_at (voter_cmp (voter t 0))) (is_at (voter_cmp at)) v.records none)))

-- nothing of what is committed in the log is on record
pub forgot_done : (done : List Tid) (tid : Tid) (server : ℕ) (v : machine.NodeValue) → is_recoverable server ≡ true → IsRising voter_cmp v.records → is_among done tid ≡ true → record_of (fold without_records v done) tid server ≡ None
forgot_done [] tid server v kept rising is = absurd (cc is)
forgot_done (t ∷ done) tid server v kept rising is = by (same_tid tid t) refl (λ rest. forgot_done done tid server (without_records v t) kept (forgot_rises (t ∷ []) v rising) rest)
  where
    last : (n : ℕ) → is_recoverable n ≡ true → (n == 0) ≡ false → (n == 1) ≡ false → n ≡ 6
    last n k e f = grind (arith, nat_tests, k, e, f)

    first : IsRising voter_cmp (without_record tid 0 v).records
    first = remove_rises voter_cmp (is_at (voter_cmp (voter tid 0))) v.records rising

    second : IsRising voter_cmp (without_record tid 1 (without_record tid 0 v)).records
    second = remove_rises voter_cmp (is_at (voter_cmp (voter tid 1))) (without_record tid 0 v).records first

    own : (a b : Bool) → (server == 0) ≡ a → (server == 1) ≡ b → record_of (without_records v tid) tid server ≡ None
    own true b e _ = subst (λ (n : ℕ). record_of (without_records v tid) tid n ≡ None) (sym (eqb-true server 0 e))
        (removed_none (is_at (voter_cmp (voter tid 6))) (is_at (voter_cmp (voter tid 0))) (without_record tid 1 (without_record tid 0 v)).records
        (removed_none (is_at (voter_cmp (voter tid 1))) (is_at (voter_cmp (voter tid 0))) (without_record tid 0 v).records (removed voter_cmp voter_exact (voter tid 0) v.records rising)))
    own false true _ e = subst (λ (n : ℕ). record_of (without_records v tid) tid n ≡ None) (sym (eqb-true server 1 e))
        (removed_none (is_at (voter_cmp (voter tid 6))) (is_at (voter_cmp (voter tid 1))) (without_record tid 1 (without_record tid 0 v)).records (removed voter_cmp voter_exact (voter tid 1) (without_record tid 0 v).records first))
    own false false e f = subst (λ (n : ℕ). record_of (without_records v tid) tid n ≡ None) (sym (last server kept e f)) (removed voter_cmp voter_exact (voter tid 6) (without_record tid 1 (without_record tid 0 v)).records second)

    by : (b : Bool) → same_tid tid t ≡ b → (is_among done tid ≡ true → record_of (fold without_records (without_records v t) done) tid server ≡ None) → record_of (fold without_records (without_records v t) done) tid server ≡ None
    by true same more = none_stays done (without_records v t) (voter tid server) (subst (λ (x : Tid). record_of (without_records v x) tid server ≡ None) (same_tid-true tid t same) (own (server == 0) (server == 1) refl refl))
    by false far more = more (rw far at is)
