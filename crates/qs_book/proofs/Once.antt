-- Found votes that are gone through once, with those that were seen kept beside.
use Rattle.std.proofs.Common.{◌≡◌, ◌∙◌, ℕ, ◌+◌, refl, sym, ap, List, [], ◌∷◌, drop, arith}
use Rattle.std.specs.Prelude.{Bool, true, false, not, ◌&&◌, ◌||◌, ◌==◌, cond}
use Rattle.std.specs.List.{list_any, list_all}
use Rattle.std.specs.Cmp.{unsigned_ties, both_tied}
use Rattle.std.specs.BTreeMap.{is_at}
use Rattle.std.proofs.lemmas.Bool.Decides.{nat_tests}
use Rattle.qs_base.specs.Order.{same_tid}
use Rattle.qs_book_journal.specs.declared.entry.Found.{Found}
use Rattle.qs_base.proofs.TidOrder.{same_tid-cmp}
use Rattle.qs_book_machine.specs.Nodes.{voter_cmp}
use Rattle.qs_book_machine.specs.Restart.{is_same_vote, is_seen, voter_of, votes_once}
use Rattle.qs_book_machine.specs.declared.state.Voter.{Voter}

-- none of these votes was seen
abbrev pub all_new : List Voter → List Found → Bool
all_new seen votes = list_all (λ found. not (is_seen seen found)) votes

pub none_seen : (votes : List Found) → all_new [] votes ≡ true
none_seen [] = refl
none_seen (found ∷ more) = none_seen more

turned : (found other : Found) → (same_tid found.tid other.tid && (found.server.0 == other.server.0)) ≡ is_same_vote found other
turned found other = grind (arith, nat_tests)

same_vote-cmp : (found other : Found) → is_at (voter_cmp (voter_of found)) (voter_of other) ≡ is_same_vote found other
same_vote-cmp found other =
    sym (both_tied _ _ _ _ (same_tid-cmp found.tid other.tid) (unsigned_ties found.server.0 other.server.0)) ∙ turned found other

module _ (old new : List Voter) (found : Found)
    (adds : (other : Found) → is_seen new other ≡ cond (is_at (voter_cmp (voter_of found)) (voter_of other)) true (is_seen old other)) where
  -- what follows is new still where it is no vote of that member
  parted : (more : List Found) → all_new new more ≡ (not (list_any (is_same_vote found) more) && all_new old more)
  parted [] = refl
  parted (other ∷ more) =
      rw (adds other, same_vote-cmp found other, parted more)
      (by (is_same_vote found other) (is_seen old other) (list_any (is_same_vote found) more) (all_new old more))
    where
      by : (same was any rest : Bool) → (not (cond same true was) && (not any && rest)) ≡ (not (same || any) && (not was && rest))
      by true was any rest = refl
      by false true true rest = refl
      by false true false rest = refl
      by false false true rest = refl
      by false false false rest = refl

  -- a vote that was not seen is seen by those that follow
  pub seen_more : (more : List Found) → is_seen old found ≡ false
      → (all_new new more && votes_once more) ≡ (all_new old (found ∷ more) && votes_once (found ∷ more))
  seen_more more first =
      rw (first, parted more) (by (list_any (is_same_vote found) more) (all_new old more) (votes_once more))
    where
      by : (any rest once : Bool) → ((not any && rest) && once) ≡ (rest && (not any && once))
      by true true once = refl
      by true false once = refl
      by false true once = refl
      by false false once = refl

-- whether a vote is the first of its member, by the answer that it is or is not
first_was : (was first : Bool) → first ≡ not was → first ≡ true → was ≡ false
first_was true first is answer = absurd (cc (is, answer))
first_was false first is answer = refl

again_was : (was first : Bool) → first ≡ not was → first ≡ false → was ≡ true
again_was true first is answer = refl
again_was false first is answer = absurd (cc (is, answer))

module _ (seen : List Voter) (votes : List Found) (found : Found) (i : ℕ) (at : drop i votes ≡ found ∷ drop (i + 1) votes)
    (was : (all_new seen (drop i votes) && votes_once (drop i votes)) ≡ votes_once votes) (first : Bool) (is : first ≡ not (is_seen seen found)) where
  pub next_seen : (new : List Voter)
      → ((other : Found) → is_seen new other ≡ cond (is_at (voter_cmp (voter_of found)) (voter_of other)) true (is_seen seen other))
      → first ≡ true → (all_new new (drop (i + 1) votes) && votes_once (drop (i + 1) votes)) ≡ votes_once votes
  next_seen new adds answer =
      seen_more seen new found adds (drop (i + 1) votes) (first_was (is_seen seen found) first is answer)
      ∙ ap (λ (l : List Found). all_new seen l && votes_once l) (sym at) ∙ was

  pub seen_again : first ≡ false → false ≡ votes_once votes
  seen_again answer =
      rw (again_was (is_seen seen found) first is answer) at (ap (λ (l : List Found). all_new seen l && votes_once l) (sym at) ∙ was)
