-- A request that stands is served, before another of its number is issued, where in the end all are served and none crossed.
use Rattle.qs_book_laws.proofs.Words.{◌≡◌, ℕ, Bool, true, false, not, List, [], ◌∷◌, ◌++◌, Option, Some, None, refl, sym, ap, subst, ◌∙◌, is_some, unwrap_or, find, lookup, insert_entry, is_at, exact_unsigned, exact_pairs, tied_itself, nat_cmp_total, nat_cmp, Ordering, Less, Equal, Greater, same_member, member_cmp, Member, same_member-true, TransactionValue, changed_value, requests_at, request_cmp, link_cmp, is_standing, standing_request, crossed_by, Request, RequestNo, and_false}
use Rattle.qs_book_machine.specs.Transaction.{requests_in, mark_served}
use Rattle.qs_book_laws.proofs.Holding.{left_of, clash}
use Rattle.qs_book_laws.proofs.Maps.{changed_apart, lookup_changed, lookup_put, lookup_put_apart}

-- ---- numbers of requests

request_equal : (r s : RequestNo) → request_cmp r s ≡ Equal → r ≡ s
request_equal r s e =
    let pairs = exact_pairs link_pair nat_cmp (λ l m same. exact_pairs nat_cmp nat_cmp exact_unsigned exact_unsigned l m same) exact_unsigned ((r.link.from.0, r.link.to.0), r.number) ((s.link.from.0, s.link.to.0), s.number) e in
    ap made pairs
  where
    link_pair : ℕ × ℕ → ℕ × ℕ → Ordering
    link_pair l m = link_cmp (record { from = record { 0 = l.0 }; to = record { 0 = l.1 } }) (record { from = record { 0 = m.0 }; to = record { 0 = m.1 } })

    made : (ℕ × ℕ) × ℕ → RequestNo
    made p = record { link = record { from = record { 0 = p.0.0 }; to = record { 0 = p.0.1 } }; number = p.1 }

pub request_exact : (r s : RequestNo) → is_at (request_cmp r) s ≡ true → r ≡ s
request_exact r s = by (request_cmp r s) refl
  where
    by : (o : Ordering) → request_cmp r s ≡ o → is_at (request_cmp r) s ≡ true → r ≡ s
    by Less is h = absurd (cc (rw is at h))
    by Equal is h = request_equal r s is
    by Greater is h = absurd (cc (rw is at h))

request_itself : (r : RequestNo) → request_cmp r r ≡ Equal
request_itself r = rw (tied_itself nat_cmp_total r.link.from.0, tied_itself nat_cmp_total r.link.to.0, tied_itself nat_cmp_total r.number) refl

-- ---- the requests under a number

module _ (at : RequestNo) (member : Member) where
  abbrev pub stands_in : List Request → Bool
  stands_in requests = is_some (find (is_standing member) requests)

  -- one more
  stands_more : (requests more : List Request) → stands_in requests ≡ true → stands_in (requests ++ more) ≡ true
  stands_more [] more h = absurd (cc h)
  stands_more (r ∷ requests) more h = by (is_standing member r) refl h (stands_more requests more)
    where
      by : (b : Bool) → is_standing member r ≡ b → stands_in (r ∷ requests) ≡ true → (stands_in requests ≡ true → stands_in (requests ++ more) ≡ true) → stands_in (r ∷ requests ++ more) ≡ true
      by true is k rest = rw is refl
      by false is k rest = rw is (rest (rw is at k))

  -- and where it stands itself
  stands_last : (requests : List Request) (request : Request) → is_standing member request ≡ true → stands_in (requests ++ request ∷ []) ≡ true
  stands_last [] request h = rw h refl
  stands_last (r ∷ requests) request h = by (is_standing member r) refl (stands_last requests request h)
    where
      by : (b : Bool) → is_standing member r ≡ b → stands_in (requests ++ request ∷ []) ≡ true → stands_in (r ∷ requests ++ request ∷ []) ≡ true
      by true is rest = rw is refl
      by false is rest = rw is rest

  -- another member serves one
  stands_marked : (other : Member) (requests : List Request) → same_member other member ≡ false → stands_in requests ≡ true → stands_in (mark_served other requests) ≡ true
  stands_marked other [] apart h = h
  stands_marked other (r ∷ requests) apart h = by (is_standing other r) refl h (stands_marked other requests apart)
    where
      not_mine : is_standing other r ≡ true → is_standing member r ≡ false
      not_mine is = elsewhere (same_member r.member member) refl
        where
          theirs : r.member ≡ other
          theirs = same_member-true r.member other (left_of (same_member r.member other) (not r.served) is)

          elsewhere : (b : Bool) → same_member r.member member ≡ b → is_standing member r ≡ false
          elsewhere false far = rw far refl
          elsewhere true same = absurd (clash (subst (λ (m : Member). same_member m member ≡ true) theirs same) apart)

      by : (b : Bool) → is_standing other r ≡ b → stands_in (r ∷ requests) ≡ true → (stands_in requests ≡ true → stands_in (mark_served other requests) ≡ true) → stands_in (mark_served other (r ∷ requests)) ≡ true
      by true is k rest =
          let no : is_standing member r ≡ false = not_mine is in
          let still : is_standing member (record r { served = true }) ≡ false = and_false (same_member r.member member) in
          rw (is, still) (rw no at k)
      by false is k rest = mine (is_standing member r) refl k
        where
          mine : (c : Bool) → is_standing member r ≡ c → stands_in (r ∷ requests) ≡ true → stands_in (mark_served other (r ∷ requests)) ≡ true
          mine true has k = rw (is, has) refl
          mine false has k = rw (is, has) (rest (rw has at k))

  -- ---- in the transaction

  -- a request of that number to the member stands
  abbrev pub IsStanding : TransactionValue → Type 0
  IsStanding tx = is_some (standing_request tx at member) ≡ true

  pub put_stands : (tx : TransactionValue) (other : RequestNo) (request : Request) → IsStanding tx → stands_in (requests_in (insert_entry request_cmp tx.requests other (requests_at tx other ++ request ∷ [])) at) ≡ true
  put_stands tx other request stands = by (is_at (request_cmp at) other) refl
    where
      new : RequestNo → List (RequestNo × List Request)
      new r = insert_entry request_cmp tx.requests r (requests_at tx r ++ request ∷ [])

      by : (b : Bool) → is_at (request_cmp at) other ≡ b → stands_in (requests_in (new other) at) ≡ true
      by false apart =
          ap (λ (o : Option (List Request)). stands_in (unwrap_or o [])) (lookup_put_apart request_cmp other (requests_at tx other ++ request ∷ []) (λ x. request_equal other x) (is_at (request_cmp at)) apart tx.requests) ∙ stands
      by true same =
          subst (λ (r : RequestNo). stands_in (requests_in (new r) at) ≡ true) (request_exact at other same)
          (ap (λ (o : Option (List Request)). stands_in (unwrap_or o [])) (lookup_put request_cmp at (requests_at tx at ++ request ∷ []) (request_itself at) tx.requests)
          ∙ stands_more (requests_at tx at) (request ∷ []) stands)

  pub issue_stands : (tx : TransactionValue) (request : Request) → is_standing member request ≡ true → stands_in (requests_in (insert_entry request_cmp tx.requests at (requests_at tx at ++ request ∷ [])) at) ≡ true
  issue_stands tx request is =
      ap (λ (o : Option (List Request)). stands_in (unwrap_or o [])) (lookup_put request_cmp at (requests_at tx at ++ request ∷ []) (request_itself at) tx.requests)
      ∙ stands_last (requests_at tx at) request is

  pub mark_stands : (tx : TransactionValue) (other : RequestNo) (m : Member) → (is_at (request_cmp other) at ≡ true → same_member m member ≡ false) → IsStanding tx
      → stands_in (requests_in (changed_value (is_at (request_cmp other)) (mark_served m) tx.requests) at) ≡ true
  mark_stands tx other m apart stands = by (is_at (request_cmp other) at) refl
    where
      new : RequestNo → List (RequestNo × List Request)
      new r = changed_value (is_at (request_cmp r)) (mark_served m) tx.requests

      here : same_member m member ≡ false → (o : Option (List Request)) → lookup (is_at (request_cmp at)) tx.requests ≡ o → stands_in (unwrap_or o []) ≡ true → stands_in (requests_in (new at) at) ≡ true
      here far None is k = absurd (cc k)
      here far (Some requests) is k =
          ap (λ (o : Option (List Request)). stands_in (unwrap_or o [])) (lookup_changed (is_at (request_cmp at)) (mark_served m) tx.requests requests is) ∙ stands_marked m requests far k

      by : (b : Bool) → is_at (request_cmp other) at ≡ b → stands_in (requests_in (new other) at) ≡ true
      by false far =
          ap (λ (o : Option (List Request)). stands_in (unwrap_or o []))
          (changed_apart (is_at (request_cmp other)) (is_at (request_cmp at)) (λ k is. subst (λ (x : RequestNo). is_at (request_cmp other) x ≡ false) (request_exact at k is) far) (mark_served m) tx.requests)
          ∙ stands
      by true same =
          subst (λ (r : RequestNo). stands_in (requests_in (new r) at) ≡ true) (sym (request_exact other at same))
          (here (apart same) (lookup (is_at (request_cmp at)) tx.requests) refl stands)

  -- a request of the number to the member crosses one that stands
  pub crossing : (tx : TransactionValue) (place : ℕ) → IsStanding tx → is_some (lookup (is_at (member_cmp member)) (crossed_by (standing_request tx at member) place member tx.crossed)) ≡ true
  crossing tx place stands = by (standing_request tx at member) stands
    where
      itself : member_cmp member member ≡ Equal
      itself = rw (tied_itself nat_cmp_total member.node.0, tied_itself nat_cmp_total member.server.0) refl

      from : (o : Option ℕ) → lookup (is_at (member_cmp member)) tx.crossed ≡ o
          → is_some (lookup (is_at (member_cmp member)) (elim o [ Some earlier ↦ tx.crossed | None ↦ insert_entry member_cmp tx.crossed member place ])) ≡ true
      from None is = ap (λ (o : Option ℕ). is_some o) (lookup_put member_cmp member place itself tx.crossed)
      from (Some earlier) is = ap (λ (o : Option ℕ). is_some o) is

      by : (o : Option Request) → is_some o ≡ true → is_some (lookup (is_at (member_cmp member)) (crossed_by o place member tx.crossed)) ≡ true
      by None h = absurd (cc h)
      by (Some request) h = from (lookup (is_at (member_cmp member)) tx.crossed) refl
