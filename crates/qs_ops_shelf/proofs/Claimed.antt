-- Who claims a name, told by those alone who have it pending.
use Rattle.std.proofs.Common.{◌≡◌, ℕ, List, [], ◌∷◌, Option, Some, None, refl, sym, ap, ◌∙◌}
use Rattle.std.specs.Prelude.{Bool, true, false, not, cond, ◌&&◌, ◌||◌, is_some, unwrap_or}
use Rattle.std.specs.declared.cmp.Ordering.TheVariants.{Less, Equal, Greater}
use Rattle.std.specs.Ordering.{is_eq, ordering_reverse}
use Rattle.std.specs.List.{AllByRecursion, list_any}
use Rattle.std.specs.List.Sorted.{IsStrictlySortedBy}
use Rattle.std.specs.Map.{lookup, keys_of}
use Rattle.std.specs.BTreeMap.{is_at}
use Rattle.std.proofs.lemmas.Cmp.{tied_itself}
use Rattle.std.proofs.lemmas.Map.Keys.{sorted_head, sorted_tail}
use Rattle.std.proofs.lemmas.Map.Made.{is_some-lookup}
use Rattle.qs_base.specs.Order.{tid_cmp, same_tid}
use Rattle.qs_base.specs.declared.identifiers.Tid.{Tid}
use Rattle.qs_base.proofs.TidOrder.{tid_total, tid_exact}
use Rattle.qs_ops.specs.declared.share.Share.{Share}
use Rattle.qs_ops.specs.Table.{nothing_held, changes_name, is_claim}
use Rattle.qs_ops_shares.specs.Shares.{share_in}
use Rattle.qs_ops_shelf.specs.Claims.{is_voter, holders_of}
use Rattle.qs_ops_shelf.specs.Slots.{Entries, slot_in, pending_of, Follows}
use Rattle.qs_ops_shelf.specs.declared.slot.ShelfText.{ShelfText}
use Rattle.qs_ops_shelf.proofs.Pending.{pending-changed}

-- ---- each entry is found at its key

abbrev IsFound : List (Tid × Share) → Tid × Share → Type 0
IsFound all e = share_in all e.0 ≡ e.1

found_more : (e : Tid × Share) (rest fs : List (Tid × Share)) → AllByRecursion (λ t. tid_cmp e.0 t ≡ Less) (keys_of fs)
    → AllByRecursion (IsFound rest) fs → AllByRecursion (IsFound (e ∷ rest)) fs
found_more e rest [] above found = tt
found_more e rest (f ∷ fs) above found =
    let greater : tid_cmp f.0 e.0 ≡ Greater = tid_total.antisymm f.0 e.0 ∙ ap ordering_reverse above.0 in
    let apart : is_eq (tid_cmp f.0 e.0) ≡ false = ap is_eq greater in
    (ap (λ (b : Bool). unwrap_or (cond b (Some e.1) (lookup (is_at (tid_cmp f.0)) rest)) nothing_held) apart ∙ found.0, found_more e rest fs above.1 found.1)

all_found : (es : List (Tid × Share)) → IsStrictlySortedBy tid_cmp (keys_of es) → AllByRecursion (IsFound es) es
all_found [] sorted = tt
all_found (e ∷ es) sorted = (
  ap (λ (b : Bool). unwrap_or (cond b (Some e.1) (lookup (is_at (tid_cmp e.0)) es)) nothing_held) (ap is_eq (tied_itself tid_total e.0)),
  found_more e es es (sorted_head tid_cmp e.0 (keys_of es) sorted) (all_found es (sorted_tail tid_cmp e.0 (keys_of es) sorted)),
)

-- ---- tests

or-right : (a b : Bool) → b ≡ true → a || b ≡ true
or-right true b is = refl
or-right false b is = is

or-left : (a b : Bool) → a ≡ true → a || b ≡ true
or-left true b is = refl
or-left false b is = absurd (cc)

all-three : (a b c : Bool) → a ≡ true → b ≡ true → c ≡ true → (a && (b && c)) ≡ true
all-three a b c x y z = rw (x, y, z) refl

two-of : (a b c : Bool) → (a && (b && c)) ≡ true → a && b ≡ true
two-of true true c is = refl
two-of true false c is = absurd (cc)
two-of false b c is = absurd (cc)

third-of : (a b c : Bool) → (a && (b && c)) ≡ true → c ≡ true
third-of true true c is = is
third-of true false c is = absurd (cc)
third-of false b c is = absurd (cc)

first-of : (a b : Bool) → a && b ≡ true → a ≡ true
first-of true b is = refl
first-of false b is = absurd (cc)

second-of : (a b : Bool) → a && b ≡ true → b ≡ true
second-of true b is = is
second-of false b is = absurd (cc)

same-truth : (a b : Bool) → (a ≡ true → b ≡ true) → (b ≡ true → a ≡ true) → a ≡ b
same-truth true b there back = sym (there refl)
same-truth false true there back = back refl
same-truth false false there back = refl

-- ---- a voter that has the name pending claims it

claim_found : (me : Tid) (q : List ℕ) (es : List (Tid × Share)) (t : Tid) → not (same_tid me t) ≡ true → (share_in es t).voted ≡ true → changes_name q (share_in es t) ≡ true → list_any (is_claim me q) es ≡ true
claim_found me q [] t other voted changes = absurd (cc)
claim_found me q (e ∷ es) t other voted changes =
    (elim (tid_cmp t e.0) as (λ o. tid_cmp t e.0 ≡ o → (unwrap_or (cond (is_eq o) (Some e.1) (lookup (is_at (tid_cmp t)) es)) nothing_held).voted ≡ true
    → changes_name q (unwrap_or (cond (is_eq o) (Some e.1) (lookup (is_at (tid_cmp t)) es)) nothing_held) ≡ true → is_claim me q e || list_any (is_claim me q) es ≡ true) [
      | Less ↦ λ is v c. or-right (is_claim me q e) (list_any (is_claim me q) es) (claim_found me q es t other v c)
      | Equal ↦ λ is v c. or-left (is_claim me q e) (list_any (is_claim me q) es)
          (all-three (not (same_tid me e.0)) e.1.voted (changes_name q e.1) (ap (λ (s : Tid). not (same_tid me s)) (sym (tid_exact t e.0 is)) ∙ other) v c)
      | Greater ↦ λ is v c. or-right (is_claim me q e) (list_any (is_claim me q) es) (claim_found me q es t other v c)
    ]) refl voted changes

claim_from_voters : (me : Tid) (q : List ℕ) (all : List (Tid × Share)) (ks : List Tid)
    → ((t : Tid) → list_any (is_at (tid_cmp t)) ks ≡ true → changes_name q (share_in all t) ≡ true)
    → list_any (is_voter me all) ks ≡ true → list_any (is_claim me q) all ≡ true
claim_from_voters me q all [] holds some = absurd (cc)
claim_from_voters me q all (k ∷ ks) holds some =
    (elim (is_voter me all k) as (λ b. is_voter me all k ≡ b → b || list_any (is_voter me all) ks ≡ true → list_any (is_claim me q) all ≡ true) [
      | true ↦ λ is any. claim_found me q all k (first-of (not (same_tid me k)) (share_in all k).voted is) (second-of (not (same_tid me k)) (share_in all k).voted is)
          (holds k (or-left (is_eq (tid_cmp k k)) (list_any (is_at (tid_cmp k)) ks) (ap is_eq (tied_itself tid_total k))))
      | false ↦ λ is any. claim_from_voters me q all ks (λ t at. holds t (or-right (is_eq (tid_cmp t k)) (list_any (is_at (tid_cmp t)) ks) at)) any
    ]) refl some

-- ---- who claims the name has it pending

voter_found : (me : Tid) (all : List (Tid × Share)) (ks : List Tid) (t : Tid) → is_voter me all t ≡ true → list_any (is_at (tid_cmp t)) ks ≡ true → list_any (is_voter me all) ks ≡ true
voter_found me all [] t votes at = absurd (cc)
voter_found me all (k ∷ ks) t votes at =
    (elim (tid_cmp t k) as (λ o. tid_cmp t k ≡ o → is_eq o || list_any (is_at (tid_cmp t)) ks ≡ true → is_voter me all k || list_any (is_voter me all) ks ≡ true) [
      | Less ↦ λ is rest. or-right (is_voter me all k) (list_any (is_voter me all) ks) (voter_found me all ks t votes rest)
      | Equal ↦ λ is rest. or-left (is_voter me all k) (list_any (is_voter me all) ks) (ap (λ (s : Tid). is_voter me all s) (sym (tid_exact t k is)) ∙ votes)
      | Greater ↦ λ is rest. or-right (is_voter me all k) (list_any (is_voter me all) ks) (voter_found me all ks t votes rest)
    ]) refl at

voter_from_claims : (me : Tid) (q : List ℕ) (all es : List (Tid × Share)) (ks : List Tid) → AllByRecursion (IsFound all) es
    → ((t : Tid) → changes_name q (share_in all t) ≡ true → list_any (is_at (tid_cmp t)) ks ≡ true)
    → list_any (is_claim me q) es ≡ true → list_any (is_voter me all) ks ≡ true
voter_from_claims me q all [] ks found holds some = absurd (cc)
voter_from_claims me q all (e ∷ es) ks found holds some =
    (elim (is_claim me q e) as (λ b. is_claim me q e ≡ b → b || list_any (is_claim me q) es ≡ true → list_any (is_voter me all) ks ≡ true) [
      | true ↦ λ is any. voter_found me all ks e.0
          (ap (λ (s : Share). not (same_tid me e.0) && s.voted) found.0 ∙ two-of (not (same_tid me e.0)) e.1.voted (changes_name q e.1) is)
          (holds e.0 (ap (λ (s : Share). changes_name q s) found.0 ∙ third-of (not (same_tid me e.0)) e.1.voted (changes_name q e.1) is))
      | false ↦ λ is any. voter_from_claims me q all es ks found.1 holds any
    ]) refl some

-- ---- those who have a name pending

at-holder : (o : Option ShelfText) (t : Tid) → list_any (is_at (tid_cmp t)) (holders_of o) ≡ is_some (pending_of o t)
at-holder None t = refl
at-holder (Some slot) t = sym (is_some-lookup (is_at (tid_cmp t)) slot.pending.entries)

pub claimed-by_voters : (slots : Entries) (shares : List (Tid × Share)) (me : Tid) (q : List ℕ) (o : Option ShelfText) → Follows slots shares → IsStrictlySortedBy tid_cmp (keys_of shares)
    → o ≡ slot_in slots q → list_any (is_voter me shares) (holders_of o) ≡ list_any (is_claim me q) shares
claimed-by_voters slots shares me q o follows sorted is =
    same-truth (list_any (is_voter me shares) (holders_of o)) (list_any (is_claim me q) shares)
    (claim_from_voters me q shares (holders_of o) (λ t at. sym (holds t) ∙ at))
    (voter_from_claims me q shares shares (holders_of o) (all_found shares sorted) (λ t changes. holds t ∙ changes))
  where
    holds : (t : Tid) → list_any (is_at (tid_cmp t)) (holders_of o) ≡ changes_name q (share_in shares t)
    holds t = at-holder o t ∙ ap (λ (s : Option ShelfText). is_some (pending_of s t)) is ∙ pending-changed slots shares t q follows
