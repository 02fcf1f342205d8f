-- The state of a log reads like it, says the same to a restart, and is coherent.
use Rattle.std.proofs.Common.{◌≡◌, ◌⊎◌, ◌∙◌, ℕ, Bool, true, false, List, [], ◌∷◌, ◌++◌, refl, sym, ap, subst, map, inl, inr}
use Rattle.std.specs.Prelude.{not, ◌&&◌, ◌||◌}
use Rattle.std.specs.List.{filter, list_any, list_all}
use Rattle.std.proofs.lemmas.Bool.{and_from, not-true, not_from_false, not_from_true, or_cases, or_from, or_left, or_parts, or_right}
use Rattle.std.proofs.lemmas.List.Folds.{list_any-append}
use Rattle.qs_base.specs.Order.{same_tid}
use Rattle.qs_base.specs.declared.identifiers.Tid.{Tid}
use Rattle.qs_base.proofs.Same.{same_tid-self, same_tid-true}
use Rattle.qs_base_lemmas.proofs.Tests.{and_first, and_last, never_both}
use Rattle.qs_ops.specs.declared.operation.Op.{Op}
use Rattle.qs_restart.specs.declared.recovered.OpenVote.{OpenVote}
use Rattle.qs_restart.specs.Recovery.{Prepared, Untold, Recovery, names_transaction, is_untold_of, recovery, open_vote, is_in_doubt, prepare_of, commit_of}
use Rattle.qs_restart.proofs.Behind.{same_tid-flip}
use Rattle.qs_restart_state.specs.Alike.{AreContents, EachFindsSame, EachReadsLikeItself, EachStateReadsAlike, ReadsAlike, is_among, is_beyond, is_left}
use Rattle.qs_restart_state.specs.States.{EachStateIsCoherent, EachStateSays, are_unended, is_doubt, is_numbered, is_undecided, state, state_said, tid_of}
use Rattle.qs_restart_state.specs.Taken.{MayTake, is_flagged, is_listed_among, is_of_none, same_flag}
use Rattle.qs_restart_state.proofs.Lists.{filter_of_mapped, filter_same, filters_swap, none_filtered}
use Rattle.qs_restart_state.proofs.Saying.{state_says}
use Rattle.qs_restart_state.proofs.Takable.{may_take}

pub each_says : EachStateSays
each_says node files audit extra log are = state_says node files audit extra (recovery log) (may_take log are)

-- ---- the state reads alike

-- left by the one and the other
both_left : (over new tids : List Tid) → filter (is_left (over ++ new)) tids ≡ filter (is_left new) (filter (is_left over) tids)
both_left over new [] = refl
both_left over new (t ∷ tids) = by (is_among over t) refl (is_among new t) refl (both_left over new tids)
  where
    by : (a : Bool) → is_among over t ≡ a → (b : Bool) → is_among new t ≡ b → filter (is_left (over ++ new)) tids ≡ filter (is_left new) (filter (is_left over) tids)
        → filter (is_left (over ++ new)) (t ∷ tids) ≡ filter (is_left new) (filter (is_left over) (t ∷ tids))
    by true is b so more = rw (list_any-append (same_tid t) over new, is) more
    by false is true so more = rw (list_any-append (same_tid t) over new, is, so) more
    by false is false so more = rw (list_any-append (same_tid t) over new, is, so) (ap (λ (l : List Tid). t ∷ l) more)

-- of transactions that are among the committed nothing is left
all_among : (committed : List Tid) (commits : List Untold) → list_all (is_listed_among committed) commits ≡ true → list_any (is_left committed) (map tid_of commits) ≡ false
all_among committed [] h = refl
all_among committed (c ∷ commits) h =
    or_from (is_left committed c.tid) _ (not_from_true _ (and_first (is_listed_among committed c) _ h)) (all_among committed commits (and_last (is_listed_among committed c) _ h))

all_itself : (committed tids : List Tid) → ((tid : Tid) → is_among tids tid ≡ true → is_among committed tid ≡ true) → list_any (is_left committed) tids ≡ false
all_itself committed [] h = refl
all_itself committed (t ∷ tids) h =
    or_from (is_left committed t) _ (not_from_true _ (h t (or_left (same_tid t t) (is_among tids t) (same_tid-self t)))) (all_itself committed tids (λ u is. h u (or_right (same_tid u t) (is_among tids u) is)))

-- beyond the one and the other
both_beyond : (over new : List Tid) (votes : List Prepared) → filter (is_beyond (over ++ new)) votes ≡ filter (is_beyond new) (filter (is_beyond over) votes)
both_beyond over new [] = refl
both_beyond over new (v ∷ votes) = by (is_among over v.tid) refl (is_among new v.tid) refl (both_beyond over new votes)
  where
    by : (a : Bool) → is_among over v.tid ≡ a → (b : Bool) → is_among new v.tid ≡ b → filter (is_beyond (over ++ new)) votes ≡ filter (is_beyond new) (filter (is_beyond over) votes)
        → filter (is_beyond (over ++ new)) (v ∷ votes) ≡ filter (is_beyond new) (filter (is_beyond over) (v ∷ votes))
    by true is b so more = rw (list_any-append (same_tid v.tid) over new, is) more
    by false is true so more = rw (list_any-append (same_tid v.tid) over new, is, so) more
    by false is false so more = rw (list_any-append (same_tid v.tid) over new, is, so) (ap (λ (l : List Prepared). v ∷ l) more)

not_flag : (a b : Bool) → same_flag a b ≡ true → same_flag (not b) (not a) ≡ true
not_flag true true h = refl
not_flag true false h = absurd (cc h)
not_flag false true h = absurd (cc h)
not_flag false false h = refl

flags : (committed : List Tid) (votes : List Prepared) → list_all (is_flagged committed) votes ≡ true → list_all (λ (v : Prepared). same_flag (is_beyond committed v) (is_undecided v)) votes ≡ true
flags committed [] h = refl
flags committed (v ∷ votes) h =
    and_from (same_flag (is_beyond committed v) (is_undecided v)) _ (not_flag v.committed (is_among committed v.tid) (and_first (is_flagged committed v) _ h)) (flags committed votes (and_last (is_flagged committed v) _ h))

-- whose Commit waits is committed
named_among : (committed : List Tid) (commits : List Untold) (tid : Tid) → list_all (is_listed_among committed) commits ≡ true → is_among (map tid_of commits) tid ≡ true → is_among committed tid ≡ true
named_among committed [] tid h is = absurd (cc is)
named_among committed (c ∷ commits) tid h is =
    by (or_cases (same_tid tid c.tid) (is_among (map tid_of commits) tid) is) (named_among committed commits tid (and_last (is_listed_among committed c) _ h))
  where
    by : (same_tid tid c.tid ≡ true) ⊎ (is_among (map tid_of commits) tid ≡ true) → (is_among (map tid_of commits) tid ≡ true → is_among committed tid ≡ true) → is_among committed tid ≡ true
    by (inl its) more = ap (is_among committed) (same_tid-true tid c.tid its) ∙ and_first (is_listed_among committed c) _ h
    by (inr rest) more = more rest

state_alike : (over : List Tid) (full thin : Recovery) (node : ℕ) (files audit extra : List Op) → MayTake thin → AreContents files audit extra thin
    → ReadsAlike over full thin → ReadsAlike (over ++ thin.committed) full (recovery (state node files audit extra thin))
state_alike over full thin node files audit extra may are r = subst (ReadsAlike (over ++ thin.committed) full) (sym (state_says node files audit extra thin may)) (record {
  files = r.files ∙ are.files_are;
  audit = r.audit ∙ are.audit_are;
  extra = r.extra ∙ are.extra_are;
  prepared =
      sym (filter_same (is_beyond thin.committed) is_undecided thin.prepared (flags thin.committed thin.prepared may.flagged))
      ∙ ap (filter (is_beyond thin.committed)) r.prepared
      ∙ sym (both_beyond over thin.committed full.prepared);
  untold = r.untold;
  over_are = λ tid is. over_too tid (or_cases (is_among over tid) (is_among thin.committed tid) (sym (list_any-append (same_tid tid) over thin.committed) ∙ is));
  fewer = λ tid is. r.fewer tid (named_among thin.committed thin.untold tid may.known is);
  others = none_left_over (map tid_of thin.untold) (none_committed thin.untold may.known) ∙ sym none_left_full;
})
  where
    over_too : (tid : Tid) → (is_among over tid ≡ true) ⊎ (is_among thin.committed tid ≡ true) → is_among full.committed tid ≡ true
    over_too tid (inl before) = r.over_are tid before
    over_too tid (inr now) = r.fewer tid now

    -- of what the log has as committed nothing is left
    none_committed : (commits : List Untold) → list_all (is_listed_among thin.committed) commits ≡ true → filter (is_left thin.committed) (map tid_of commits) ≡ []
    none_committed commits known = none_filtered (is_left thin.committed) (map tid_of commits) (all_among thin.committed commits known)

    none_left_over : (tids : List Tid) → filter (is_left thin.committed) tids ≡ [] → filter (is_left (over ++ thin.committed)) tids ≡ []
    none_left_over tids none = both_left over thin.committed tids ∙ filters_swap (is_left thin.committed) (is_left over) tids ∙ ap (filter (is_left over)) none

    none_left_full : filter (is_left (over ++ thin.committed)) full.committed ≡ []
    none_left_full =
        both_left over thin.committed full.committed
        ∙ ap (filter (is_left thin.committed)) (sym r.others)
        ∙ filters_swap (is_left thin.committed) (is_left over) thin.committed
        ∙ ap (filter (is_left over)) (none_filtered (is_left thin.committed) thin.committed (all_itself thin.committed thin.committed (λ tid is. is)))

pub each_reads_alike : EachStateReadsAlike
each_reads_alike over full thin node files audit extra coherent are r = state_alike over (recovery full) (recovery thin) node files audit extra (may_take thin coherent) are r

all_beyond : (votes : List Prepared) → votes ≡ filter (is_beyond []) votes
all_beyond [] = refl
all_beyond (v ∷ votes) = ap (λ (l : List Prepared). v ∷ l) (all_beyond votes)

pub reads_like_itself : EachReadsLikeItself
reads_like_itself said = record {
  files = refl;
  audit = refl;
  extra = refl;
  prepared = all_beyond said.prepared;
  untold = refl;
  over_are = λ tid is. absurd (cc is);
  fewer = λ tid is. is;
  others = refl;
}

-- ---- what a restart finds

-- what is over has a Commit behind each of its votes
is_over_marked : List Tid → Prepared → Bool
is_over_marked over vote = not (is_among over vote.tid) || vote.committed

marked_all : (over : List Tid) (full : Recovery) (votes : List Prepared) → ((tid : Tid) → is_among over tid ≡ true → is_among full.committed tid ≡ true) → list_all (is_doubt full) votes ≡ true
    → list_all (is_over_marked over) votes ≡ true
unfolding is_over_marked
marked_all over full [] over_are doubts = refl
marked_all over full (v ∷ votes) over_are doubts =
    and_from _ _ (by (is_among over v.tid) refl v.committed (names_transaction v.tid) (list_any (is_untold_of v.tid) full.untold) (is_among full.committed v.tid) refl (and_first (is_doubt full v) _ doubts))
    (marked_all over full votes over_are (and_last (is_doubt full v) _ doubts))
  where
    by : (a : Bool) → is_among over v.tid ≡ a → (c n u m : Bool) → is_among full.committed v.tid ≡ m → (c || (n && (not u && not m))) ≡ true → (not a || c) ≡ true
    by true is true n u m so doubt = refl
    by true is false true false false so doubt = absurd (never_both (is_among full.committed v.tid) (over_are v.tid is) so)
    by true is false true false true so doubt = absurd (cc doubt)
    by true is false true true m so doubt = absurd (cc doubt)
    by true is false false u m so doubt = absurd (cc doubt)
    by false is c n u m so doubt = refl

within_all : {A : Type 0} (p q : A → Bool) (xs : List A) → list_all (λ x. not (p x) || q x) xs ≡ true → filter p (filter q xs) ≡ filter p xs
within_all {A = A} p q [] h = refl
within_all {A = A} p q (x ∷ xs) h = by (p x) refl (q x) refl (and_first (not (p x) || q x) _ h) (within_all p q xs (and_last (not (p x) || q x) _ h))
  where
    by : (b : Bool) → p x ≡ b → (c : Bool) → q x ≡ c → (not (p x) || q x) ≡ true → filter p (filter q xs) ≡ filter p xs → filter p (filter q (x ∷ xs)) ≡ filter p (x ∷ xs)
    by true is true so e more = rw (so, is) (ap (λ (l : List A). x ∷ l) more)
    by true is false so e more = absurd (let clash : (not true || false) ≡ true = sym (ap (λ (a : Bool). not a || q x) is ∙ ap (λ (a : Bool). not true || a) so) ∙ e in cc clash)
    by false is true so e more = rw (so, is) more
    by false is false so e more = rw (so, is) more

stays_beyond : (over : List Tid) (votes : List Prepared) → list_all (is_over_marked over) votes ≡ true → list_all (λ (v : Prepared). not (is_in_doubt v) || is_beyond over v) votes ≡ true
unfolding is_over_marked
stays_beyond over [] h = refl
stays_beyond over (v ∷ votes) h =
    and_from (not (is_in_doubt v) || is_beyond over v) _ (by (is_among over v.tid) v.committed (names_transaction v.tid) (and_first (is_over_marked over v) _ h)) (stays_beyond over votes (and_last (is_over_marked over v) _ h))
  where
    by : (a c n : Bool) → (not a || c) ≡ true → (not (n && not c) || not a) ≡ true
    by true true true h = refl
    by true true false h = refl
    by true false n h = absurd (cc h)
    by false true true h = refl
    by false true false h = refl
    by false false true h = refl
    by false false false h = refl

pub finds_same : EachFindsSame
finds_same over full thin are r =
    let marked = marked_all over full full.prepared r.over_are (and_first (list_all (is_doubt full) full.prepared) _ are) in
    record {
      doubts = ap (λ (l : List Prepared). map prepare_of (filter is_in_doubt l)) r.prepared ∙ ap (map prepare_of) (within_all is_in_doubt (is_beyond over) full.prepared (stays_beyond over full.prepared marked));
      commits = ap (λ (l : List Untold). map commit_of (filter (λ (c : Untold). names_transaction c.tid) l)) r.untold;
      votes =
          ap (λ (l : List Prepared). map open_vote (filter (λ (v : Prepared). names_transaction v.tid) l)) r.prepared
          ∙ ap (map open_vote) (filters_swap (λ (v : Prepared). names_transaction v.tid) (is_beyond over) full.prepared)
          ∙ sym (filter_of_mapped open_vote (λ (vote : OpenVote). is_left over vote.tid) (filter (λ (v : Prepared). names_transaction v.tid) full.prepared));
      others = r.others;
    }

-- ---- coherence

off_tids : (tid : Tid) (commits : List Untold) → list_any (is_untold_of tid) commits ≡ false → list_any (same_tid tid) (map tid_of commits) ≡ false
off_tids tid [] h = refl
off_tids tid (c ∷ commits) h = let n = or_parts (is_untold_of tid c) (list_any (is_untold_of tid) commits) h in or_from (same_tid tid c.tid) _ (same_tid-flip tid c.tid ∙ n.0) (off_tids tid commits n.1)

doubts_stay : (commits : List Untold) (committed : List Tid) (said : Recovery) (votes : List Prepared) → list_all (is_doubt said) votes ≡ true → list_all (is_of_none commits) (filter is_undecided votes) ≡ true
    → list_all (is_doubt (record said { untold = commits; committed = map tid_of commits })) (filter is_undecided votes) ≡ true
doubts_stay commits committed said [] h off = refl
doubts_stay commits committed said (v ∷ votes) h off = by v.committed refl (names_transaction v.tid) refl (and_first (is_doubt said v) _ h) off (λ o. doubts_stay commits committed said votes (and_last (is_doubt said v) _ h) o)
  where
    rest : Recovery
    rest = record said { untold = commits; committed = map tid_of commits }

    by : (b : Bool) → v.committed ≡ b → (c : Bool) → names_transaction v.tid ≡ c → is_doubt said v ≡ true → list_all (is_of_none commits) (filter is_undecided (v ∷ votes)) ≡ true
        → (list_all (is_of_none commits) (filter is_undecided votes) ≡ true → list_all (is_doubt rest) (filter is_undecided votes) ≡ true) → list_all (is_doubt rest) (filter is_undecided (v ∷ votes)) ≡ true
    by true so c nm e o more = subst (λ (l : List Prepared). list_all (is_doubt rest) l ≡ true) (sym (skip so)) (more (subst (λ (l : List Prepared). list_all (is_of_none commits) l ≡ true) (skip so) o))
      where
        skip : v.committed ≡ true → filter is_undecided (v ∷ votes) ≡ filter is_undecided votes
        skip is = rw is refl
    by false so true nm e o more = subst (λ (l : List Prepared). list_all (is_doubt rest) l ≡ true) (sym (take so))
        (and_from (is_doubt rest v) _ (doubt nm (not-true _ (and_first (is_of_none commits v) _ (subst (λ (l : List Prepared). list_all (is_of_none commits) l ≡ true) (take so) o)))) (more (and_last (is_of_none commits v) _ (subst (λ (l : List Prepared). list_all (is_of_none commits) l ≡ true) (take so) o))))
      where
        take : v.committed ≡ false → filter is_undecided (v ∷ votes) ≡ v ∷ filter is_undecided votes
        take is = rw is refl

        doubt : names_transaction v.tid ≡ true → list_any (is_untold_of v.tid) commits ≡ false → is_doubt rest v ≡ true
        doubt named none = last v.committed _ (and_from (names_transaction v.tid) _ named (and_from _ _ (not_from_false _ none) (not_from_false _ (off_tids v.tid commits none))))
          where
            last : (a b : Bool) → b ≡ true → (a || b) ≡ true
            last true b h = refl
            last false b h = h
    by false so false nm e o more = absurd (none v.committed (names_transaction v.tid) _ so nm e)
      where
        none : (a b c : Bool) → a ≡ false → b ≡ false → (a || (b && c)) ≡ true → ⊥
        none true b c h k e = cc h
        none false true c h k e = cc k
        none false false c h k e = cc e

coherent_said : (node : ℕ) (files audit extra : List Op) (said : Recovery) → MayTake said → are_unended said ≡ true → are_unended (recovery (state node files audit extra said)) ≡ true
coherent_said node files audit extra said may are = subst (λ (s : Recovery). are_unended s ≡ true) (sym (state_says node files audit extra said may))
    (and_from (list_all (is_doubt (state_said files audit extra said)) (filter is_undecided said.prepared)) (list_all is_numbered said.untold)
    (doubts_stay said.untold said.committed said said.prepared (and_first (list_all (is_doubt said) said.prepared) _ are) may.apart) may.numbered)

pub each_coherent : EachStateIsCoherent
each_coherent node files audit extra log are = coherent_said node files audit extra (recovery log) (may_take log are) are
