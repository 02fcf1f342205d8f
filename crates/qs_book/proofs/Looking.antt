-- What is looked up in the found lists of a restart is what a search through them finds.
use Rattle.std.proofs.Common.{◌≡◌, ◌∙◌, ℕ, ◌+◌, ◌<◌, refl, sym, ap, subst, List, [], ◌∷◌, ◌++◌, length, take, get_or, Option, Some, None, arith}
use Rattle.std.specs.Prelude.{Bool, true, false, not, ◌&&◌, ◌||◌, ◌==◌, cond, nat_le, nat_lt}
use Rattle.std.specs.List.{list_any}
use Rattle.std.specs.Map.{lookup}
use Rattle.std.specs.Ordering.{is_eq}
use Rattle.std.specs.declared.cmp.Ordering.{Ordering}
use Rattle.std.specs.declared.cmp.Ordering.TheVariants.{Less, Equal, Greater}
use Rattle.std.specs.Cmp.{unsigned_ties, both_tied}
use Rattle.std.specs.BTreeMap.{is_at}
use Rattle.std.proofs.lemmas.Bool.Decides.{nat_tests}
use Rattle.std.proofs.lemmas.List.Folds.{list_any_more, list_any-append}
use Rattle.qs_base.specs.Order.{tid_cmp, same_tid}
use Rattle.qs_base.specs.declared.identifiers.Tid.{Tid}
use Rattle.qs_base.proofs.TidOrder.{same_tid-cmp, tid_exact}
use Rattle.qs_book_journal.specs.declared.entry.Found.{Found}
use Rattle.qs_book_machine.specs.Nodes.{voter_cmp}
use Rattle.qs_book_machine.specs.Restart.{is_among, is_found_as, voter_of}
use Rattle.qs_book_machine.specs.declared.state.Voter.{Voter}
use Rattle.qs_book.specs.Found.{is_within, greater_covers}

-- ---- transactions

turned : (s t : Tid) → same_tid s t ≡ same_tid t s
turned s t = grind (arith, nat_tests)

either : (b was : Bool) → cond b true was ≡ (was || b)
either true true = refl
either true false = refl
either false true = refl
either false false = refl

-- one more transaction
added : (old new : List Tid) (tid : Tid)
    → ((other : Tid) → list_any (is_at (tid_cmp other)) new ≡ cond (is_at (tid_cmp tid) other) true (list_any (is_at (tid_cmp other)) old))
    → (tids : List Tid) → ((other : Tid) → list_any (is_at (tid_cmp other)) old ≡ is_among tids other)
    → (other : Tid) → list_any (is_at (tid_cmp other)) new ≡ (is_among tids other || same_tid other tid)
added old new tid adds tids was other =
    adds other
    ∙ ap (λ (b : Bool). cond (is_at (tid_cmp tid) other) true b) (was other)
    ∙ either (is_at (tid_cmp tid) other) (is_among tids other)
    ∙ ap (λ (b : Bool). is_among tids other || b) (sym (turned other tid ∙ same_tid-cmp tid other))

pub among_more : (tids : List Tid) (i : ℕ) (d : Tid) (old new : List Tid) → i < length tids
    → ((other : Tid) → list_any (is_at (tid_cmp other)) new ≡ cond (is_at (tid_cmp (get_or tids i d)) other) true (list_any (is_at (tid_cmp other)) old))
    → ((other : Tid) → list_any (is_at (tid_cmp other)) old ≡ is_among (take i tids) other)
    → (other : Tid) → list_any (is_at (tid_cmp other)) new ≡ is_among (take (i + 1) tids) other
among_more tids i d old new lt adds was other =
    added old new (get_or tids i d) adds (take i tids) was other ∙ sym (list_any_more (same_tid other) tids i d lt)

or-none : (b c : Bool) → (b || c) ≡ (b || (c || false))
or-none true c = refl
or-none false true = refl
or-none false false = refl

pub among_pushed : (tids : List Tid) (tid : Tid) (old new : List Tid)
    → ((other : Tid) → list_any (is_at (tid_cmp other)) new ≡ cond (is_at (tid_cmp tid) other) true (list_any (is_at (tid_cmp other)) old))
    → ((other : Tid) → list_any (is_at (tid_cmp other)) old ≡ is_among tids other)
    → (other : Tid) → list_any (is_at (tid_cmp other)) new ≡ is_among (tids ++ tid ∷ []) other
among_pushed tids tid old new adds was other =
    added old new tid adds tids was other
    ∙ or-none (is_among tids other) (same_tid other tid)
    ∙ sym (list_any-append (same_tid other) tids (tid ∷ []))

-- ---- votes

abbrev same_voter : Voter → Found → Bool
same_voter at found = same_tid found.tid at.tid && (found.server.0 == at.server.0)

same_voter-cmp : (at : Voter) (found : Found) → is_at (voter_cmp (voter_of found)) at ≡ same_voter at found
same_voter-cmp at found = sym (both_tied _ _ _ _ (same_tid-cmp found.tid at.tid) (unsigned_ties found.server.0 at.server.0))

number_is : (m n : ℕ) → (m == n) ≡ true → m ≡ n
number_is m n e = grind (arith, nat_tests, e)

left_true : (a b : Bool) → (a && b) ≡ true → a ≡ true
left_true true b e = refl
left_true false b e = absurd (cc)

right_true : (a b : Bool) → (a && b) ≡ true → b ≡ true
right_true true b e = e
right_true false b e = absurd (cc)

is_equal : (s t : Tid) → same_tid s t ≡ true → s ≡ t
is_equal s t e = tid_exact s t (by (tid_cmp s t) (sym (same_tid-cmp s t) ∙ e))
  where
    by : (o : Ordering) → is_eq o ≡ true → o ≡ Equal
    by Less is = absurd (cc)
    by Equal is = refl
    by Greater is = absurd (cc)

voter_is : (at : Voter) (found : Found) → same_voter at found ≡ true → voter_of found ≡ at
voter_is at found e =
    let tids : found.tid ≡ at.tid = is_equal found.tid at.tid (left_true _ _ e) in
    let servers : found.server.0 ≡ at.server.0 = number_is found.server.0 at.server.0 (right_true _ _ e) in
    ap (λ (t : Tid). record { tid = t; server = found.server }) tids
    ∙ ap (λ (n : ℕ). record { tid = at.tid; server = record { 0 = n } }) servers

within-greater : (best : Option ℕ) (covers more : ℕ) → nat_le covers (greater_covers best more) ≡ (is_within best covers || nat_le covers more)
within-greater None covers more = refl
within-greater (Some best) covers more = grind (arith, nat_tests)

or-false : (b : Bool) → b ≡ (b || false)
or-false true = refl
or-false false = refl

pub covers_more : (pend : List Found) (i : ℕ) (d : Found) (old new : List (Voter × ℕ)) → i < length pend
    → ((at : Voter) → lookup (is_at (voter_cmp at)) new
    ≡ cond (is_at (voter_cmp (voter_of (get_or pend i d))) at)
    (Some (greater_covers (lookup (is_at (voter_cmp (voter_of (get_or pend i d)))) old) (get_or pend i d).covers))
    (lookup (is_at (voter_cmp at)) old))
    → ((at : Voter) (covers : ℕ) → is_within (lookup (is_at (voter_cmp at)) old) covers ≡ list_any (is_found_as at covers) (take i pend))
    → (at : Voter) (covers : ℕ) → is_within (lookup (is_at (voter_cmp at)) new) covers ≡ list_any (is_found_as at covers) (take (i + 1) pend)
covers_more pend i d old new lt adds was at covers =
    ap (λ (o : Option ℕ). is_within o covers) (adds at)
    ∙ ap (λ (b : Bool). is_within (cond b (Some (greater_covers (lookup (is_at (voter_cmp (voter_of found))) old) found.covers)) (lookup (is_at (voter_cmp at)) old)) covers) (same_voter-cmp at found)
    ∙ by (same_voter at found) refl
    ∙ ap (λ (b : Bool). b || is_found_as at covers found) (was at covers)
    ∙ sym (list_any_more (is_found_as at covers) pend i d lt)
  where
    found : Found
    found = get_or pend i d

    by : (b : Bool) → same_voter at found ≡ b
        → is_within (cond b (Some (greater_covers (lookup (is_at (voter_cmp (voter_of found))) old) found.covers)) (lookup (is_at (voter_cmp at)) old)) covers
        ≡ (is_within (lookup (is_at (voter_cmp at)) old) covers || is_found_as at covers found)
    by true is =
        ap (λ (v : Voter). nat_le covers (greater_covers (lookup (is_at (voter_cmp v)) old) found.covers)) (voter_is at found is)
        ∙ within-greater (lookup (is_at (voter_cmp at)) old) covers found.covers
        ∙ ap (λ (b : Bool). is_within (lookup (is_at (voter_cmp at)) old) covers || b)
        (together (same_tid found.tid at.tid) (found.server.0 == at.server.0) (nat_le covers found.covers) is)
      where
        together : (a b c : Bool) → (a && b) ≡ true → c ≡ (a && (b && c))
        together true true c e = refl
        together true false c e = absurd (cc)
        together false b c e = absurd (cc)
    by false is = or-false (is_within (lookup (is_at (voter_cmp at)) old) covers)
        ∙ ap (λ (b : Bool). is_within (lookup (is_at (voter_cmp at)) old) covers || b) (apart (same_tid found.tid at.tid) (found.server.0 == at.server.0) (nat_le covers found.covers) is)
      where
        apart : (a b c : Bool) → (a && b) ≡ false → false ≡ (a && (b && c))
        apart true true c e = absurd (cc)
        apart true false c e = refl
        apart false b c e = refl
