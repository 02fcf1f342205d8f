-- What counts of a part for a vote to be due stays through all that serves nothing, and a vote leaves nothing that is due.
use Rattle.qs_world_runs.proofs.Words.{◌≡◌, ℕ, arith, ◌||◌, Bool, true, false, List, [], ◌∷◌, Option, Some, None, Less, Equal, Greater, refl, sym, ap, subst, ◌∙◌, cond, nat_lt, nat_tests, is_at, list_any, lookup, set_value, unwrap_or, Ordering, changed_value, learnt_part, life_cmp, no_part, voted_part, Life, Part, Vote}
use Rattle.std.specs.BTreeSet.{insert_key}
use Rattle.qs_base.specs.declared.identifiers.Outcome.{Outcome}
use Rattle.qs_base.specs.declared.identifiers.Outcome.TheVariants as outcomes
use Rattle.qs_book_laws.proofs.Maps.{lookup_changed}
use Rattle.qs_book_machine.specs.Transaction.{start_cmp}
use Rattle.qs_book_machine.specs.declared.transaction.Start.{Start}
use Rattle.qs_ops.specs.declared.vote.Vote.TheVariants as votes

not_less : (n : ℕ) → nat_lt n n ≡ false
not_less n = grind (arith, nat_tests)

-- ---- parts

-- what counts of a part: what was served and voted, and what a restart found
abbrev pub tally : Part → ℕ × (ℕ × ℕ)
tally part = (part.served, (part.voted, part.found))

abbrev pub part_in : List (Life × Part) → Life → Part
part_in parts at = unwrap_or (lookup (is_at (life_cmp at)) parts) no_part

module _ (test q : Life → Bool) (f : Part → Part) (same : (part : Part) → tally (f part) ≡ tally part) where
  abbrev seen : List (Life × Part) → ℕ × (ℕ × ℕ)
  seen parts = tally (unwrap_or (lookup q parts) no_part)

  put_in_front : (b : Bool) (one two : Part) (xs ys : List (Life × Part)) → tally one ≡ tally two → seen xs ≡ seen ys
      → tally (unwrap_or (cond b (Some one) (lookup q xs)) no_part) ≡ tally (unwrap_or (cond b (Some two) (lookup q ys)) no_part)
  put_in_front true one two xs ys p rest = p
  put_in_front false one two xs ys p rest = rest

  set_tally : (es : List (Life × Part)) (part : Part) → lookup test es ≡ Some part → seen (set_value test es (f part)) ≡ seen es
  set_tally [] part there = absurd (cc there)
  set_tally (e ∷ es) part there = by (test e.0) there (λ is. set_tally es part is)
    where
      one : Some e.1 ≡ Some part → e.1 ≡ part
      one is = cc is

      by : (b : Bool) → cond b (Some e.1) (lookup test es) ≡ Some part → (lookup test es ≡ Some part → seen (set_value test es (f part)) ≡ seen es) → seen (cond b ((e.0, f part) ∷ es) (e ∷ set_value test es (f part))) ≡ seen (e ∷ es)
      by true is more = put_in_front (q e.0) (f part) e.1 es es (same part ∙ ap tally (sym (one is))) refl
      by false is more = put_in_front (q e.0) e.1 e.1 (set_value test es (f part)) es refl (more is)

  pub changed_tally : (es : List (Life × Part)) → seen (changed_value test f es) ≡ seen es
  changed_tally es = by (lookup test es) refl
    where
      by : (o : Option Part) → lookup test es ≡ o → seen (elim o [ None ↦ es | Some part ↦ set_value test es (f part) ]) ≡ seen es
      by None none = refl
      by (Some part) there = set_tally es part there

pub learnt_tally : (outcome : Outcome) (part : Part) → tally (learnt_part outcome part) ≡ tally part
learnt_tally outcomes.Commit part = refl
learnt_tally outcomes.Abort part = refl

-- after a vote nothing is served since the last one
module _ (ballot : Vote) (parts : List (Life × Part)) (at : Life) where
  abbrev voted_parts : List (Life × Part)
  voted_parts = changed_value (is_at (life_cmp at)) (voted_part ballot) parts

  of_part : (b : Vote) (part : Part) → nat_lt (voted_part b part).voted (voted_part b part).served ≡ false
  of_part (votes.Abort reason) part = not_less part.served
  of_part votes.ReadOnly part = not_less part.served
  of_part votes.Volatile part = not_less part.served
  of_part votes.Recoverable part = not_less part.served

  none_kept : lookup (is_at (life_cmp at)) parts ≡ None → voted_parts ≡ parts
  none_kept none = subst (λ (o : Option Part). elim o [ None ↦ parts | Some part ↦ set_value (is_at (life_cmp at)) parts (voted_part ballot part) ] ≡ parts) (sym none) refl

  pub voted_off : nat_lt (part_in voted_parts at).voted (part_in voted_parts at).served ≡ false
  voted_off = by (lookup (is_at (life_cmp at)) parts) refl
    where
      by : (o : Option Part) → lookup (is_at (life_cmp at)) parts ≡ o → nat_lt (part_in voted_parts at).voted (part_in voted_parts at).served ≡ false
      by None none = subst (λ (es : List (Life × Part)). nat_lt (part_in es at).voted (part_in es at).served ≡ false) (sym (none_kept none)) (subst (λ (o : Option Part). nat_lt (unwrap_or o no_part).voted (unwrap_or o no_part).served ≡ false) (sym none) refl)
      by (Some part) there = subst (λ (o : Option Part). nat_lt (unwrap_or o no_part).voted (unwrap_or o no_part).served ≡ false) (sym (lookup_changed (is_at (life_cmp at)) (voted_part ballot) parts part there)) (of_part ballot part)

-- ---- a start that is none of this member's

pub any_put : (p : Start → Bool) (k : Start) (xs : List Start) → p k ≡ false → list_any p (insert_key start_cmp xs k) ≡ list_any p xs
any_put p k [] out = rw out refl
any_put p k (x ∷ xs) out = by (start_cmp k x) refl (any_put p k xs out)
  where
    by : (r : Ordering) → start_cmp k x ≡ r → list_any p (insert_key start_cmp xs k) ≡ list_any p xs → list_any p (insert_key start_cmp (x ∷ xs) k) ≡ list_any p (x ∷ xs)
    by Less is more = rw is (rw out refl)
    by Equal is more = rw is refl
    by Greater is more = rw is (ap (λ (b : Bool). p x || b) more)
