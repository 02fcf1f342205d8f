-- What a restart leaves on record: the votes that were found, and none else.
use Rattle.qs_book_laws.proofs.Words.{◌≡◌, ℕ, Bool, true, false, List, [], ◌∷◌, ◌==◌, ◌&&◌, ◌||◌, Option, Some, None, refl, sym, ap, subst, ◌∙◌, if◌then◌else◌, arith, nat_tests, cond, nat_le, list_any, is_at, same_tid, Tid, Found, NodeValue, record_of, voter, voter_cmp, is_found, is_found_as, OnRecord, Voter}
use Rattle.std.proofs.lemmas.Map.Entries.{lookup-filter-keys}
use Rattle.qs_book_machine.specs.Restart.{found_only}
use Rattle.qs_book_laws.proofs.Alikes.{voter_exact}

found_by : (pend : List Found) (b : Bool) (at : Voter) → is_found pend at ≡ b → (k : Voter) → is_at (voter_cmp at) k ≡ true → is_found pend k ≡ b
found_by pend b at is k same = subst (λ (x : Voter). is_found pend x ≡ b) (voter_exact at k same) is

pub found_stays : (pend : List Found) (v : NodeValue) (tid : Tid) (s : ℕ) → is_found pend (voter tid s) ≡ true → record_of (found_only pend v) tid s ≡ record_of v tid s
found_stays pend v tid s is = lookup-filter-keys (is_at (voter_cmp (voter tid s))) (is_found pend) true (found_by pend true (voter tid s) is) v.records

pub lost_goes : (pend : List Found) (v : NodeValue) (tid : Tid) (s : ℕ) → is_found pend (voter tid s) ≡ false → record_of (found_only pend v) tid s ≡ None
lost_goes pend v tid s is = lookup-filter-keys (is_at (voter_cmp (voter tid s))) (is_found pend) false (found_by pend false (voter tid s) is) v.records

-- nothing comes on record so
pub none_stays_none : (pend : List Found) (v : NodeValue) (tid : Tid) (s : ℕ) → record_of v tid s ≡ None → record_of (found_only pend v) tid s ≡ None
none_stays_none pend v tid s none = by (is_found pend (voter tid s)) refl
  where
    by : (b : Bool) → is_found pend (voter tid s) ≡ b → record_of (found_only pend v) tid s ≡ None
    by true is = found_stays pend v tid s is ∙ none
    by false is = lost_goes pend v tid s is

-- what is on record then was so before
pub recorded_was : (pend : List Found) (v : NodeValue) (tid : Tid) (s : ℕ) (rec : OnRecord) → record_of (found_only pend v) tid s ≡ Some rec → (record_of v tid s ≡ Some rec) × (is_found pend (voter tid s) ≡ true)
recorded_was pend v tid s rec is = by (is_found pend (voter tid s)) refl
  where
    by : (b : Bool) → is_found pend (voter tid s) ≡ b → (record_of v tid s ≡ Some rec) × (is_found pend (voter tid s) ≡ true)
    by true found = (sym (found_stays pend v tid s found) ∙ is, found)
    by false lost = absurd (cc (sym (lost_goes pend v tid s lost) ∙ is))

-- no covers are fewer than none
pub least : (n : ℕ) → nat_le 0 n ≡ true
least n = grind (arith, nat_tests)

-- a vote that is found with some covers is found
pub found_with : (pend : List Found) (at : Voter) (covers : ℕ) → list_any (is_found_as at covers) pend ≡ true → is_found pend at ≡ true
found_with [] at covers is = absurd (cc is)
found_with (f ∷ pend) at covers is = by (same_tid f.tid at.tid) (f.server.0 == at.server.0) (nat_le covers f.covers) is (found_with pend at covers)
  where
    by : (a b c : Bool) → ((a && (b && c)) || list_any (is_found_as at covers) pend) ≡ true → (list_any (is_found_as at covers) pend ≡ true → is_found pend at ≡ true) → ((a && (b && nat_le 0 f.covers)) || is_found pend at) ≡ true
    by true true c h more = rw (least f.covers) refl
    by true false c h more = more h
    by false b c h more = more h
