-- As a run begins, what is pending by an old log is still to learn.
use Rattle.qs_book_laws.proofs.Words.{◌≡◌, ℕ, ◌==◌, ◌&&◌, Bool, true, false, List, [], Option, Some, refl, sym, ap, subst, ◌∙◌, length, nat_lt, if◌then◌else◌, le_refl, slice_get-map, slice_get, list_any, option_map, same_member, Member, Tid, find_transaction, NodeValue, opened_node, opening, TransactionValue, found_part, part_of, Opened, Part, held_at, keeps_contents}
use Rattle.qs_book_laws.proofs.Always.{opening_so}
use Rattle.qs_book_laws.proofs.Begun.{inc_in}
use Rattle.qs_book_laws.proofs.Ends.{held_there}
use Rattle.qs_book_laws.proofs.FoundParts.{OfFound, found_first, is_opened_with}
use Rattle.qs_book_laws.proofs.Holding.{which}
use Rattle.qs_book_laws.proofs.LiveOpenings.{log_at}
use Rattle.qs_book_laws.proofs.Lives.{inc_is, inc_of_node}
use Rattle.qs_book_laws.proofs.Parts.{put_part}
use Rattle.qs_book_laws.proofs.Shares.{number}
use Rattle.qs_book_laws.proofs.ShutOpenings.{opening_opens}
use Rattle.qs_book_laws.proofs.Takes.{some_same}
use Rattle.qs_book_laws.proofs.Turns.{Stands}
use Rattle.qs_book_laws.proofs.StillToLearn.{Learning, IsMost, IsUnlearnt, found_unlearnt}
use Rattle.qs_book_laws.proofs.NotPending.{none_first}

module _ (opened : List Opened) (tid : Tid) (member : Member) (keeps : keeps_contents member.server.0 ≡ true) (there : nat_lt member.node.0 (length opened) ≡ true) where
  side : (b : Bool) × (member.server.0 ≡ number b)
  side = which member.server.0 keeps

  -- as the run begins
  pub first : Learning tid member (opening opened)
  first = record {
    most = λ i. opening_so tid (λ (tx : TransactionValue). IsMost (part_of tx member i)) (λ cell cause. le_refl 0)
        (λ m k covers changes tx p. subst IsMost (sym (put_part member i tx m k (found_part covers changes))) (choose (same_member m member && (k == i)) (found_part covers changes) (part_of tx member i) (le_refl 0) p)) opened;
    waits = λ tx inc found inc_now unabort plain has. by (list_any (is_opened_with tid member) one.0.pending) refl tx inc found inc_now has;
  }
    where
      choose : (b : Bool) (x y : Part) → IsMost x → IsMost y → IsMost (if b then x else y)
      choose true x y p q = p
      choose false x y p q = q

      one : (one : Opened) × (slice_get opened member.node.0 ≡ Some one)
      one = log_at opened member.node.0 there

      node_there : slice_get (opening opened).nodes member.node.0 ≡ Some (opened_node one.0)
      node_there = ap (λ (nodes : List NodeValue). slice_get nodes member.node.0) (opening_opens opened).nodes ∙ (slice_get-map opened_node opened member.node.0 ∙ ap (λ (o : Option Opened). option_map opened_node o) one.1)

      by : (b : Bool) → list_any (is_opened_with tid member) one.0.pending ≡ b → (tx : TransactionValue) (inc : ℕ) → find_transaction (opening opened) tid ≡ Some tx → inc_in (opening opened) member.node.0 ≡ Some inc
          → (held_at (opening opened) tid member ≡ [] → ⊥) → IsUnlearnt (part_of tx member inc)
      by false le_refl tx inc found inc_is has = absurd (has (held_there (opening opened) tid member (opened_node one.0) node_there ∙ none_first side.0 member side.1 one.0 tid le_refl))
      by true is tx inc found inc_is has =
          let its : one.0.inc ≡ inc = some_same one.0.inc inc (sym (inc_of_node (opening opened) member.node.0 (opened_node one.0) node_there) ∙ inc_is) in
          let s : Stands tid (OfFound tid member inc) (opening opened) = found_first tid member inc opened one.0 one.1 its is in
          found_unlearnt (part_of tx member inc) (subst (OfFound tid member inc) (some_same s.tx tx (sym s.found ∙ found)) s.holds)
