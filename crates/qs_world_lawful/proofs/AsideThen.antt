-- What a member could vote as its node stopped it could vote then whatever other nodes entered since.
use Rattle.qs_world_lawful.proofs.Words.{◌≡◌, ◌⊎◌, inl, inr, ℕ, ◌≤◌, ◌==◌, ◌&&◌, ◌||◌, not, true, false, List, Option, Some, None, refl, sym, ap, subst, ◌∙◌, arith, is_some, nat_lt, nat_tests, lookup, insert_entry, is_at, member_cmp, Member, Tid, Found, lookup_put, lookup_put_apart, crossed_node, crossed_server, could_vote, member_at, TransactionValue, crossed_by, crossed_from, is_commit, is_open, standing_request, Cell, Request, and_false}
use Rattle.qs_book_machine.specs.Nodes as machine
use Rattle.qs_book_machine.specs.Transaction.{is_before, part_of, was_committed, was_crossed}
use Rattle.qs_book_machine.specs.declared.transaction.Cell.TheVariants as cells
use Rattle.qs_world_lawful.proofs.AsideBook.{new}
use Rattle.qs_world_lawful.proofs.AsideTid.{part_same, starts_same}
use Rattle.qs_world_lawful.proofs.Keys.{KeyApart, member_exact, member_itself, same_key_or}
use Rattle.qs_world_lawful.proofs.Turning.{Issues, Leaves, Serves, Turns}

no_more : (a b : ℕ) → a ≤ b → nat_lt b a ≡ false
no_more a b e = grind (arith, nat_tests, e)

-- what is crossed from a later place on was crossed before as it was
from_later : (stopped place : ℕ) → stopped ≤ place → (member m : Member) (xs : List (Member × ℕ)) → is_before stopped (lookup (is_at (member_cmp m)) (crossed_from place member xs)) ≡ is_before stopped (lookup (is_at (member_cmp m)) xs)
from_later stopped place low member m xs = by (lookup (is_at (member_cmp member)) xs) refl
  where
    put : lookup (is_at (member_cmp member)) xs ≡ None → is_before stopped (lookup (is_at (member_cmp m)) (insert_entry member_cmp xs member place)) ≡ is_before stopped (lookup (is_at (member_cmp m)) xs)
    put none = of (same_key_or member_cmp member_exact member_itself member m)
      where
        of : (member ≡ m) ⊎ KeyApart member_cmp member_exact member_itself member m → is_before stopped (lookup (is_at (member_cmp m)) (insert_entry member_cmp xs member place)) ≡ is_before stopped (lookup (is_at (member_cmp m)) xs)
        of (inl same) = subst (λ (x : Member). is_before stopped (lookup (is_at (member_cmp x)) (insert_entry member_cmp xs member place)) ≡ is_before stopped (lookup (is_at (member_cmp x)) xs)) same
            (ap (is_before stopped) (lookup_put member_cmp member place (member_itself member) xs) ∙ (no_more stopped place low ∙ sym (ap (is_before stopped) none)))
        of (inr far) = ap (is_before stopped) (lookup_put_apart member_cmp member place (member_exact member) (is_at (member_cmp m)) far.at xs)

    by : (o : Option ℕ) → lookup (is_at (member_cmp member)) xs ≡ o → is_before stopped (lookup (is_at (member_cmp m)) (elim o [ Some earlier ↦ xs | None ↦ insert_entry member_cmp xs member place ])) ≡ is_before stopped (lookup (is_at (member_cmp m)) xs)
    by (Some earlier) is = refl
    by None is = put is

by_later : (stopped place : ℕ) → stopped ≤ place → (o : Option Request) (member m : Member) (xs : List (Member × ℕ)) → is_before stopped (lookup (is_at (member_cmp m)) (crossed_by o place member xs)) ≡ is_before stopped (lookup (is_at (member_cmp m)) xs)
by_later stopped place low None member m xs = refl
by_later stopped place low (Some earlier) member m xs = from_later stopped place low member m xs

module _ (acting now place : ℕ) (k i : ℕ) (tid : Tid) (tx later : TransactionValue) (t : Turns acting now place tid tx later) (near : (k == acting) ≡ false) (s : machine.NodeValue) (low : s.stopped ≤ place) where
  abbrev stopped : ℕ
  stopped = s.stopped

  crossed_then : (m : Member) → was_crossed stopped later m ≡ was_crossed stopped tx m
  crossed_then m = by t.requests
    where
      by : Leaves tx later ⊎ (Issues acting now place tx later ⊎ Serves acting tx later) → was_crossed stopped later m ≡ was_crossed stopped tx m
      by (inl l) = ap (λ xs. is_before stopped (lookup (is_at (member_cmp m)) xs)) l.crossed
      by (inr (inl u)) = ap (λ xs. is_before stopped (lookup (is_at (member_cmp m)) xs)) u.crossed ∙ by_later stopped place low (standing_request tx u.at u.request.member) u.request.member m tx.crossed
      by (inr (inr v)) = ap (λ xs. is_before stopped (lookup (is_at (member_cmp m)) xs)) v.crossed

  asked_then : is_before stopped later.asked ≡ is_before stopped tx.asked
  asked_then = by t.asked
    where
      by : (later.asked ≡ tx.asked) ⊎ (((tid.home.0 == acting) ≡ true) × ((tx.asked ≡ None) × (later.asked ≡ Some place))) → is_before stopped later.asked ≡ is_before stopped tx.asked
      by (inl same) = ap (is_before stopped) same
      by (inr new) = ap (is_before stopped) new.1.1 ∙ (no_more stopped place low ∙ sym (ap (is_before stopped) new.1.0))

  committed_then : was_committed stopped later ≡ was_committed stopped tx
  committed_then = by t.when
    where
      open_not : (c : Cell) → is_open c ≡ true → is_commit c ≡ false
      open_not cells.Open e = refl
      open_not cells.Commit e = absurd (cc e)
      open_not cells.Abort e = absurd (cc e)

      late : later.decided ≡ Some place → was_committed stopped later ≡ false
      late at = subst (λ (o : Option ℕ). (is_commit later.cell && (not (is_some o) || is_before stopped o)) ≡ false) (sym at) (rw (no_more stopped place low) (and_false (is_commit later.cell)))

      by : ((later.cell ≡ tx.cell) × (later.decided ≡ tx.decided)) ⊎ ((is_open tx.cell ≡ true) × (later.decided ≡ Some place)) → was_committed stopped later ≡ was_committed stopped tx
      by (inl same) = ap (λ (c : Cell). is_commit c && (not (is_some later.decided) || is_before stopped later.decided)) same.0 ∙ ap (λ (o : Option ℕ). is_commit tx.cell && (not (is_some o) || is_before stopped o)) same.1
      by (inr made) = late made.1 ∙ sym (rw (open_not tx.cell made.0) refl)

  -- what it could vote as it stopped is the same
  pub could_then : (found : Found) → could_vote k s later found ≡ could_vote k s tx found
  could_then found =
      rw (
        asked_then,
        committed_then,
        part_same acting now place (record { 0 = k }) i tid tx later t near found.server s.inc,
        starts_same acting now place (record { 0 = k }) i tid tx later t near found.server s.inc (part_of tx (member_at k found.server.0) s.inc).served found.covers,
        crossed_then (member_at k found.server.0),
      ) refl
