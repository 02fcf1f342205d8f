-- What is on record once a restart has put on record the votes that it finds: of each its own where it is new, and else what was there.
use Rattle.qs_world_runs.proofs.Words.{◌≡◌, ◌⊎◌, inl, inr, ℕ, ◌==◌, ◌&&◌, not, Bool, true, false, List, [], ◌∷◌, Option, Some, None, refl, sym, ap, subst, ◌∙◌, if◌then◌else◌, fold-append, slice_get, list_any, lookup, is_at, same_tid, same_tid-self, Tid, Found, voter_exact, changed_at_here, IsBelow, IsRising, BookValue, find_transaction, record_of, voter, voter_cmp, put_new_votes, record_at, OnRecord, Voter, Every, and_parts, not-true, or_parts, eqb-self}
use Rattle.std.proofs.Common.{flat_map}
use Rattle.qs_book_laws.proofs.Alikes.{voter_equal, voter_itself}
use Rattle.qs_book_laws.proofs.Maps.{lookup_put, lookup_put_apart}
use Rattle.qs_book_machine.specs.Nodes as machine
use Rattle.qs_book_machine.specs.Restart.{is_new_vote, is_same_vote, new_vote, new_votes, vote_as_stopped, voter_of, votes_once, with_vote, with_votes}
use Rattle.qs_world_lawful.proofs.RestoredRecords.{new_votes_are}

module _ (here : ℕ) (book : BookValue) (state : machine.NodeValue) where
  abbrev nv : Found → List (Voter × OnRecord)
  nv found = new_vote here book state found

  abbrev pub is_new : Found → Bool
  is_new found = is_new_vote here state (find_transaction book found.tid) found

  abbrev IsFar : Voter → Found → Type 0
  IsFar at found = is_at (voter_cmp at) (voter_of found) ≡ false

  -- one that is not new, or is another voter's
  abbrev pub LeavesAt : Voter → Found → Type 0
  LeavesAt at found = (is_new found ≡ false) ⊎ IsFar at found

  one_leaves : (f : Found) (w : machine.NodeValue) (at : Voter) → LeavesAt at f → lookup (is_at (voter_cmp at)) (with_votes (nv f) w).records ≡ lookup (is_at (voter_cmp at)) w.records
  one_leaves f w at (inl old) = by (is_new f) old
    where
      by : (b : Bool) → b ≡ false → lookup (is_at (voter_cmp at)) (with_votes (if b then (voter f.tid f.server.0, vote_as_stopped here book state f) ∷ [] else []) w).records ≡ lookup (is_at (voter_cmp at)) w.records
      by true e = absurd (cc e)
      by false e = refl
  one_leaves f w at (inr far) = by (is_new f)
    where
      by : (b : Bool) → lookup (is_at (voter_cmp at)) (with_votes (if b then (voter f.tid f.server.0, vote_as_stopped here book state f) ∷ [] else []) w).records ≡ lookup (is_at (voter_cmp at)) w.records
      by true = lookup_put_apart voter_cmp (voter f.tid f.server.0) (vote_as_stopped here book state f) (λ x e. voter_equal (voter f.tid f.server.0) x e) (is_at (voter_cmp at)) far w.records
      by false = refl

  split : (f : Found) (fs : List Found) (w : machine.NodeValue) → with_votes (flat_map nv (f ∷ fs)) w ≡ with_votes (flat_map nv fs) (with_votes (nv f) w)
  split f fs w = fold-append with_vote w (nv f) (flat_map nv fs)

  all_leave : (fs : List Found) (w : machine.NodeValue) (at : Voter) → Every (LeavesAt at) fs → lookup (is_at (voter_cmp at)) (with_votes (flat_map nv fs) w).records ≡ lookup (is_at (voter_cmp at)) w.records
  all_leave [] w at far = refl
  all_leave (f ∷ fs) w at far = ap (λ (v : machine.NodeValue). lookup (is_at (voter_cmp at)) v.records) (split f fs w) ∙ (all_leave fs (with_votes (nv f) w) at far.1 ∙ one_leaves f w at far.0)

  -- others are far, where each is found once
  once_far : (f : Found) (fs : List Found) → list_any (is_same_vote f) fs ≡ false → Every (IsFar (voter_of f)) fs
  once_far f [] none = tt
  once_far f (g ∷ fs) none = (by (is_at (voter_cmp (voter_of f)) (voter_of g)) refl, once_far f fs (or_parts (is_same_vote f g) _ none).1)
    where
      by : (b : Bool) → is_at (voter_cmp (voter_of f)) (voter_of g) ≡ b → is_at (voter_cmp (voter_of f)) (voter_of g) ≡ false
      by false e = e
      by true e =
          let same : voter_of f ≡ voter_of g = voter_exact (voter_of f) (voter_of g) e in
          absurd (cc (sym (or_parts (is_same_vote f g) _ none).0 ∙ subst (λ (v : Voter). (same_tid v.tid f.tid && (v.server.0 == f.server.0)) ≡ true) same (rw (same_tid-self f.tid, eqb-self f.server.0) refl)))

  each_leaves : (at : Voter) (fs : List Found) → Every (IsFar at) fs → Every (LeavesAt at) fs
  each_leaves at [] far = tt
  each_leaves at (f ∷ fs) far = (inr far.0, each_leaves at fs far.1)

  turned : (f g : Found) → IsFar (voter_of f) g → IsFar (voter_of g) f
  turned f g far = by (is_at (voter_cmp (voter_of g)) (voter_of f)) refl
    where
      by : (b : Bool) → is_at (voter_cmp (voter_of g)) (voter_of f) ≡ b → is_at (voter_cmp (voter_of g)) (voter_of f) ≡ false
      by false e = e
      by true e =
          let same : voter_of g ≡ voter_of f = voter_exact (voter_of g) (voter_of f) e in
          absurd (cc (sym far ∙ subst (λ (v : Voter). is_at (voter_cmp (voter_of f)) v ≡ true) (sym same) (rw (voter_itself (voter_of f)) refl)))

  -- what is on record of a found vote then
  abbrev pub record_then : Found → Option OnRecord
  record_then f = if is_new f then Some (vote_as_stopped here book state f) else record_of state f.tid f.server.0

  abbrev Agrees : machine.NodeValue → Found → Type 0
  Agrees w f = record_of w f.tid f.server.0 ≡ record_of state f.tid f.server.0

  own_then : (f : Found) (w : machine.NodeValue) → Agrees w f → record_of (with_votes (nv f) w) f.tid f.server.0 ≡ record_then f
  own_then f w agrees = by (is_new f)
    where
      by : (b : Bool) → record_of (with_votes (if b then (voter f.tid f.server.0, vote_as_stopped here book state f) ∷ [] else []) w) f.tid f.server.0 ≡ (if b then Some (vote_as_stopped here book state f) else record_of state f.tid f.server.0)
      by true = lookup_put voter_cmp (voter f.tid f.server.0) (vote_as_stopped here book state f) (voter_itself (voter f.tid f.server.0)) w.records
      by false = agrees

  agree_on : (f : Found) (w : machine.NodeValue) (fs : List Found) → Every (IsFar (voter_of f)) fs → Every (Agrees w) fs → Every (Agrees (with_votes (nv f) w)) fs
  agree_on f w [] far all = tt
  agree_on f w (g ∷ fs) far all = (one_leaves f w (voter_of g) (inr (turned f g far.0)) ∙ all.0, agree_on f w fs far.1 all.1)

  each_then : (fs : List Found) (w : machine.NodeValue) → votes_once fs ≡ true → Every (Agrees w) fs → Every (λ (f : Found). record_of (with_votes (flat_map nv fs) w) f.tid f.server.0 ≡ record_then f) fs
  each_then [] w once agrees = tt
  each_then (f ∷ fs) w once agrees = subst (λ (v : machine.NodeValue). Every (λ (g : Found). record_of v g.tid g.server.0 ≡ record_then g) (f ∷ fs)) (sym (split f fs w))
      (all_leave fs (with_votes (nv f) w) (voter_of f) (each_leaves (voter_of f) fs far) ∙ own_then f w agrees.0, each_then fs (with_votes (nv f) w) apart.1 (agree_on f w fs far agrees.1))
    where
      apart : (not (list_any (is_same_vote f) fs) ≡ true) × (votes_once fs ≡ true)
      apart = and_parts _ (votes_once fs) once

      far : Every (IsFar (voter_of f)) fs
      far = once_far f fs (not-true _ apart.0)

  all_agree : (fs : List Found) → Every (Agrees state) fs
  all_agree [] = tt
  all_agree (f ∷ fs) = (refl, all_agree fs)

  -- ---- as a restart puts them

  module _ (there : slice_get book.nodes here ≡ Some state) (found : List Found) where
    abbrev put : machine.NodeValue
    put = with_votes (flat_map nv found) state

    put_is : slice_get (put_new_votes here found book).nodes here ≡ Some put
    put_is = changed_at_here (with_votes (new_votes here book found)) book.nodes here state there ∙ ap (λ (votes : List (Voter × OnRecord)). Some (with_votes votes state)) (new_votes_are here book state found there)

    read : (tid : Tid) (server : ℕ) → record_at here (put_new_votes here found book) tid server ≡ record_of put tid server
    read tid server = ap (λ (o : Option machine.NodeValue). elim o [ None ↦ None | Some node ↦ record_of node tid server ]) put_is

    pub found_then : votes_once found ≡ true → Every (λ (f : Found). record_at here (put_new_votes here found book) f.tid f.server.0 ≡ record_then f) found
    found_then once = on found (each_then found state once (all_agree found))
      where
        on : (fs : List Found) → Every (λ (f : Found). record_of put f.tid f.server.0 ≡ record_then f) fs → Every (λ (f : Found). record_at here (put_new_votes here found book) f.tid f.server.0 ≡ record_then f) fs
        on [] all = tt
        on (f ∷ fs) all = (read f.tid f.server.0 ∙ all.0, on fs all.1)

    -- and what none of them is of stays
    pub others_then : (tid : Tid) (server : ℕ) → Every (LeavesAt (voter tid server)) found → record_at here (put_new_votes here found book) tid server ≡ record_of state tid server
    others_then tid server all = read tid server ∙ all_leave found state (voter tid server) all

-- ---- each entry of what is on record is found under its key

below_none : (k : Voter) (es : List (Voter × OnRecord)) → IsBelow voter_cmp k es → lookup (is_at (voter_cmp k)) es ≡ None
below_none k [] below = refl
below_none k (e ∷ es) below = rw below.0 (below_none k es below.1)

pub each_on_record : (P : Voter × OnRecord → Type 0) (es : List (Voter × OnRecord)) → IsRising voter_cmp es → ((at : Voter) (rec : OnRecord) → lookup (is_at (voter_cmp at)) es ≡ Some rec → P (at, rec)) → Every P es
each_on_record P [] rising gives = tt
each_on_record P (e ∷ es) rising gives = (gives e.0 e.1 (rw (voter_itself e.0) refl), each_on_record P es rising.1 (λ at rec is. gives at rec (apart at rec is)))
  where
    clash : {X : Type 0} (rec : OnRecord) → None ≡ Some rec → X
    clash rec c = absurd (cc c)

    apart : (at : Voter) (rec : OnRecord) → lookup (is_at (voter_cmp at)) es ≡ Some rec → lookup (is_at (voter_cmp at)) (e ∷ es) ≡ Some rec
    apart at rec is = by (is_at (voter_cmp at) e.0) refl
      where
        by : (b : Bool) → is_at (voter_cmp at) e.0 ≡ b → lookup (is_at (voter_cmp at)) (e ∷ es) ≡ Some rec
        by true same = clash rec (sym (below_none at es (subst (λ (v : Voter). IsBelow voter_cmp v es) (sym (voter_exact at e.0 same)) rising.0)) ∙ is)
        by false far = rw far is
