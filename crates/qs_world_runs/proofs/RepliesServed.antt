-- A request that is served stands no more: where its transaction is not crossed at the member, no other stood there under its number.
use Rattle.qs_world_runs.proofs.Words.{◌≡◌, ◌⊎◌, inl, inr, ℕ, suc, ◌≤◌, Bool, true, false, List, [], ◌∷◌, Option, Some, None, refl, sym, ap, ◌∙◌, arith, length, is_at, filter, find, lookup, unwrap_or, same_tid-self, same_member, same_tid, Member, changed_none, inc_at, TransactionValue, changed_value, is_crossed, is_standing, mark_served, request_cmp, requests_at, standing_request, Request, RequestNo, entry_of, way_between, HasGiven, IsServed, and_false}
use Rattle.qs_book_journal.specs.declared.entry.Act.TheVariants as acts
use Rattle.qs_book_laws.proofs.Maps.{lookup_changed}
use Rattle.qs_book_machine.specs.Book.{is_done}
use Rattle.qs_book_machine.specs.Transaction.{served_in}
use Rattle.qs_world_runs.specs.RepliesTrue.{ServesOnce}
use Rattle.qs_world_runs.proofs.RepliesEntries.{stays}

-- ---- of the requests under a number

module _ (member : Member) where
  none_left : (rs : List Request) → length (filter (is_standing member) rs) ≤ 1 → find (is_standing member) (mark_served member rs) ≡ None
  none_left [] few = refl
  none_left (r ∷ rs) few = by (is_standing member r) refl (none_left rs)
    where
      no_more : (a : ℕ) → suc a ≤ 1 → a ≡ 0
      no_more a h = omega arith

      empty : (xs : List Request) → length xs ≡ 0 → xs ≡ []
      empty [] e = refl
      empty (x ∷ xs) e = absurd (cc e)

      none_in : (xs : List Request) → filter (is_standing member) xs ≡ [] → find (is_standing member) xs ≡ None
      none_in [] e = refl
      none_in (x ∷ xs) e = of (is_standing member x) refl (none_in xs)
        where
          of : (b : Bool) → is_standing member x ≡ b → (filter (is_standing member) xs ≡ [] → find (is_standing member) xs ≡ None) → find (is_standing member) (x ∷ xs) ≡ None
          of true is more = absurd (cc (rw is at e))
          of false is more = rw is (more (rw is at e))

      by : (b : Bool) → is_standing member r ≡ b → (length (filter (is_standing member) rs) ≤ 1 → find (is_standing member) (mark_served member rs) ≡ None) → find (is_standing member) (mark_served member (r ∷ rs)) ≡ None
      by true is more = let served : is_standing member (record r { served = true }) ≡ false = and_false (same_member r.member member) in
          let last : suc (length (filter (is_standing member) rs)) ≤ 1 = rw is at few in
          rw is (rw served (none_in rs (empty (filter (is_standing member) rs) (no_more (length (filter (is_standing member) rs)) last))))
      by false is more = rw is (rw is (more (rw is at few)))

-- ---- of a transaction

module _ (tx : TransactionValue) (at : RequestNo) (member : Member) (inc stamp : ℕ) (done : Bool) where
  abbrev later : TransactionValue
  later = served_in at member inc stamp done tx

  marked : requests_at later at ≡ mark_served member (requests_at tx at)
  marked = of (lookup (is_at (request_cmp at)) tx.requests) refl
    where
      of : (o : Option (List Request)) → lookup (is_at (request_cmp at)) tx.requests ≡ o → unwrap_or (lookup (is_at (request_cmp at)) (changed_value (is_at (request_cmp at)) (mark_served member) tx.requests)) [] ≡ mark_served member (unwrap_or (lookup (is_at (request_cmp at)) tx.requests) [])
      of None is = ap (λ (o : Option (List Request)). unwrap_or o []) (changed_none (is_at (request_cmp at)) (mark_served member) tx.requests is) ∙ sym (ap (λ (o : Option (List Request)). mark_served member (unwrap_or o [])) is)
      of (Some rs) is = ap (λ (o : Option (List Request)). unwrap_or o []) (lookup_changed (is_at (request_cmp at)) (mark_served member) tx.requests rs is) ∙ sym (ap (λ (o : Option (List Request)). mark_served member (unwrap_or o [])) is)

  none_stands : (is_crossed tx member ≡ false → length (filter (is_standing member) (requests_at tx at)) ≤ 1) → (is_crossed later member ≡ true) ⊎ (standing_request later at member ≡ None)
  none_stands once = by (is_crossed tx member) refl
    where
      by : (b : Bool) → is_crossed tx member ≡ b → (is_crossed later member ≡ true) ⊎ (standing_request later at member ≡ None)
      by true is = inl is
      by false is = inr (ap (find (is_standing member)) marked ∙ none_left member (requests_at tx at) (once is))

-- ---- an entry

pub serves_once : ServesOnce
serves_once book n stamp i tid member from number reply well fine given = stays book (entry_of n stamp (acts.Serve tid member from number reply)) from.0 i tid (HasGiven from.0 i member.node.0 number) (IsServed from.0 i member number) well.inv fine
    (λ now. record { own = λ same tx found p. record { none = none_stands tx (way_between from.0 member.node.0 number) member (inc_at book (record { 0 = n })) stamp (is_done reply) ((well.waits tid tx found).once member (way_between from.0 member.node.0 number)); given = p }; other = λ apart. absurd (far apart) }) given
  where
    far : same_tid tid tid ≡ false → ⊥
    far apart = cc (sym (same_tid-self tid) ∙ apart)
