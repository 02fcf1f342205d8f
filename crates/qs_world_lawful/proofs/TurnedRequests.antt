-- Under each number an entry leaves the requests, puts one more behind them, or has the first that stands at a member of its node served;
-- so what stands at a member stands once, where it is not crossed there, and is the member's.
use Rattle.qs_world_lawful.proofs.Words.{◌≡◌, ◌⊎◌, inl, inr, ℕ, ◌≤◌, Bool, true, false, List, [], ◌∷◌, ◌++◌, length, map, Option, Some, None, refl, sym, ap, subst, ◌∙◌, arith, is_some, true≢false, drop, unwrap_or, filter, find, lookup, insert_entry, is_at, member_cmp, same_member, same_member-self, same_member-true, Member, ServerNo, changed_apart, changed_none, lookup_changed, lookup_put, lookup_put_apart, TransactionValue, changed_value, crossed_by, crossed_from, is_crossed, is_standing}
use Rattle.qs_world_lawful.proofs.Words.{mark_served, request_cmp, requests_at, requests_in, standing_request, Request, RequestNo, Op, StandsOnce, AreFor, op_in, standing_ops}
use Rattle.qs_ipc.specs.Queue as queue
use Rattle.qs_book_laws.proofs.Maps.{put_known}
use Rattle.qs_book_machine.specs.Clauses.{is_for}
use Rattle.qs_world_lawful.proofs.Faces.{filter_last, filter_more}
use Rattle.qs_world_lawful.proofs.Keys.{KeyApart, member_itself, request_exact, request_itself, same_key_or}
use Rattle.qs_world_lawful.proofs.Turning.{Issues, Leaves, Serves}
use Rattle.qs_world_lawful.proofs.Within.{map_last, mark_apart, mark_fewer, mark_first}

-- ---- what is crossed

from_on : (member m : Member) (place : ℕ) (xs : List (Member × ℕ)) → is_some (lookup (is_at (member_cmp m)) xs) ≡ true → is_some (lookup (is_at (member_cmp m)) (crossed_from place member xs)) ≡ true
from_on member m place xs h = by (lookup (is_at (member_cmp member)) xs)
  where
    by : (o : Option ℕ) → is_some (lookup (is_at (member_cmp m)) (elim o [ Some earlier ↦ xs | None ↦ insert_entry member_cmp xs member place ])) ≡ true
    by (Some earlier) = h
    by None = put_known member_cmp member place (is_at (member_cmp m)) xs h

by_on : (o : Option Request) (place : ℕ) (member m : Member) (xs : List (Member × ℕ)) → is_some (lookup (is_at (member_cmp m)) xs) ≡ true → is_some (lookup (is_at (member_cmp m)) (crossed_by o place member xs)) ≡ true
by_on None place member m xs h = h
by_on (Some earlier) place member m xs h = from_on member m place xs h

pub crossing_new : (place : ℕ) (member : Member) (crossed : List (Member × ℕ)) → is_some (lookup (is_at (member_cmp member)) (crossed_from place member crossed)) ≡ true
crossing_new place member crossed = by (lookup (is_at (member_cmp member)) crossed) refl
  where
    by : (o : Option ℕ) → lookup (is_at (member_cmp member)) crossed ≡ o → is_some (lookup (is_at (member_cmp member)) (elim o [ Some earlier ↦ crossed | None ↦ insert_entry member_cmp crossed member place ])) ≡ true
    by (Some earlier) is = ap is_some is
    by None is = ap is_some (lookup_put member_cmp member place (member_itself member) crossed)

-- ---- under a number

-- one more stands there
pub record OneMore (here : ℕ) (tx later : TransactionValue) (at : RequestNo) : Type 0 where
  pub request : Request
  pub from : at.link.from.0 ≡ here
  pub to : at.link.to ≡ request.member.node
  pub unserved : request.served ≡ false
  pub fits : is_for request.op request.member ≡ true
  pub requests : requests_at later at ≡ requests_at tx at ++ request ∷ []
  pub alone : is_crossed later request.member ≡ false → standing_request tx at request.member ≡ None

-- the first at a member of the node is served
pub record OneServed (here : ℕ) (tx later : TransactionValue) (at : RequestNo) : Type 0 where
  pub member : Member
  pub own : member.node.0 ≡ here
  pub to : at.link.to ≡ member.node
  pub requests : requests_at later at ≡ mark_served member (requests_at tx at)

abbrev pub AtNumber : ℕ → TransactionValue → TransactionValue → RequestNo → Type 0
AtNumber here tx later at = (requests_at later at ≡ requests_at tx at) ⊎ (OneMore here tx later at ⊎ OneServed here tx later at)

in_requests : (at : RequestNo) (a b : List (RequestNo × List Request)) → a ≡ b → requests_in a at ≡ requests_in b at
in_requests at a b e = ap (λ es. requests_in es at) e

module _ (here now place : ℕ) (tx later : TransactionValue) (r : Leaves tx later ⊎ (Issues here now place tx later ⊎ Serves here tx later)) where
  by_leaves : Leaves tx later → (at : RequestNo) → AtNumber here tx later at
  by_leaves l at = inl (in_requests at later.requests tx.requests l.requests)

  by_issues : Issues here now place tx later → (at : RequestNo) → AtNumber here tx later at
  by_issues i at = by (same_key_or request_cmp request_exact request_itself i.at at)
    where
      own : OneMore here tx later i.at
      own = record {
        request = i.request;
        from = i.from;
        to = i.to;
        unserved = i.unserved;
        fits = i.fits;
        requests = in_requests i.at later.requests (insert_entry request_cmp tx.requests i.at (requests_at tx i.at ++ i.request ∷ [])) i.requests
            ∙ ap (λ (o : Option (List Request)). unwrap_or o []) (lookup_put request_cmp i.at (requests_at tx i.at ++ i.request ∷ []) (request_itself i.at) tx.requests);
        alone = λ whole. none (standing_request tx i.at i.request.member) refl (ap (λ xs. is_some (lookup (is_at (member_cmp i.request.member)) xs)) (sym i.crossed) ∙ whole);
      }
        where
          none : (o : Option Request) → standing_request tx i.at i.request.member ≡ o → is_some (lookup (is_at (member_cmp i.request.member)) (crossed_by (standing_request tx i.at i.request.member) place i.request.member tx.crossed)) ≡ false → o ≡ None
          none None is e = refl
          none (Some earlier) is e = absurd (true≢false (sym (crossing_new place i.request.member tx.crossed) ∙ subst (λ (o : Option Request). is_some (lookup (is_at (member_cmp i.request.member)) (crossed_by o place i.request.member tx.crossed)) ≡ false) is e))

      by : (i.at ≡ at) ⊎ KeyApart request_cmp request_exact request_itself i.at at → AtNumber here tx later at
      by (inl same) = inr (inl (subst (λ (k : RequestNo). OneMore here tx later k) same own))
      by (inr far) = inl (in_requests at later.requests (insert_entry request_cmp tx.requests i.at (requests_at tx i.at ++ i.request ∷ [])) i.requests
          ∙ ap (λ (o : Option (List Request)). unwrap_or o []) (lookup_put_apart request_cmp i.at (requests_at tx i.at ++ i.request ∷ []) (request_exact i.at) (is_at (request_cmp at)) far.at tx.requests))

  by_serves : Serves here tx later → (at : RequestNo) → AtNumber here tx later at
  by_serves s at = by (same_key_or request_cmp request_exact request_itself s.at at)
    where
      marked : (o : Option (List Request)) → lookup (is_at (request_cmp s.at)) tx.requests ≡ o → unwrap_or (lookup (is_at (request_cmp s.at)) (changed_value (is_at (request_cmp s.at)) (mark_served s.member) tx.requests)) [] ≡ mark_served s.member (unwrap_or (lookup (is_at (request_cmp s.at)) tx.requests) [])
      marked None is = ap (λ (o : Option (List Request)). unwrap_or o []) (changed_none (is_at (request_cmp s.at)) (mark_served s.member) tx.requests is) ∙ sym (ap (λ (o : Option (List Request)). mark_served s.member (unwrap_or o [])) is)
      marked (Some rs) is = ap (λ (o : Option (List Request)). unwrap_or o []) (lookup_changed (is_at (request_cmp s.at)) (mark_served s.member) tx.requests rs is) ∙ sym (ap (λ (o : Option (List Request)). mark_served s.member (unwrap_or o [])) is)

      own : OneServed here tx later s.at
      own = record {
        member = s.member;
        own = s.own;
        to = s.to;
        requests = in_requests s.at later.requests (changed_value (is_at (request_cmp s.at)) (mark_served s.member) tx.requests) s.requests ∙ marked (lookup (is_at (request_cmp s.at)) tx.requests) refl;
      }

      by : (s.at ≡ at) ⊎ KeyApart request_cmp request_exact request_itself s.at at → AtNumber here tx later at
      by (inl same) = inr (inr (subst (λ (k : RequestNo). OneServed here tx later k) same own))
      by (inr far) = inl (in_requests at later.requests (changed_value (is_at (request_cmp s.at)) (mark_served s.member) tx.requests) s.requests
          ∙ ap (λ (o : Option (List Request)). unwrap_or o []) (changed_apart (is_at (request_cmp s.at)) (is_at (request_cmp at)) far.keys (mark_served s.member) tx.requests))

  pub at_number : (at : RequestNo) → AtNumber here tx later at
  at_number = of r
    where
      of : Leaves tx later ⊎ (Issues here now place tx later ⊎ Serves here tx later) → (at : RequestNo) → AtNumber here tx later at
      of (inl l) = by_leaves l
      of (inr (inl i)) = by_issues i
      of (inr (inr s)) = by_serves s

  -- what is crossed stays so
  pub crossed_back : (m : Member) → is_crossed later m ≡ false → is_crossed tx m ≡ false
  crossed_back m whole = by (is_crossed tx m) refl
    where
      grown : Leaves tx later ⊎ (Issues here now place tx later ⊎ Serves here tx later) → is_crossed tx m ≡ true → is_crossed later m ≡ true
      grown (inl l) is = ap (λ xs. is_some (lookup (is_at (member_cmp m)) xs)) l.crossed ∙ is
      grown (inr (inl i)) is = ap (λ xs. is_some (lookup (is_at (member_cmp m)) xs)) i.crossed ∙ by_on (standing_request tx i.at i.request.member) place i.request.member m tx.crossed is
      grown (inr (inr s)) is = ap (λ xs. is_some (lookup (is_at (member_cmp m)) xs)) s.crossed ∙ is

      by : (b : Bool) → is_crossed tx m ≡ b → is_crossed tx m ≡ false
      by false is = is
      by true is = absurd (true≢false (sym (grown r is) ∙ whole))

  -- ---- what stands

  none_found : {A : Type 0} (p : A → Bool) (xs : List A) → find p xs ≡ None → filter p xs ≡ []
  none_found p [] e = refl
  none_found p (x ∷ xs) e = by (p x) refl (none_found p xs)
    where
      by : (b : Bool) → p x ≡ b → (find p xs ≡ None → filter p xs ≡ []) → filter p (x ∷ xs) ≡ []
      by true is more = absurd (cc (rw is at e))
      by false is more = rw is (more (rw is at e))

  pub once_on : StandsOnce tx → (member : Member) (at : RequestNo) → is_crossed later member ≡ false → length (filter (is_standing member) (requests_at later at)) ≤ 1
  once_on w member at whole = by (at_number at)
    where
      was : length (filter (is_standing member) (requests_at tx at)) ≤ 1
      was = w.once member at (crossed_back member whole)

      by : AtNumber here tx later at → length (filter (is_standing member) (requests_at later at)) ≤ 1
      by (inl same) = subst (λ (rs : List Request). length (filter (is_standing member) rs) ≤ 1) (sym same) was
      by (inr (inr s)) = subst (λ (rs : List Request). length (filter (is_standing member) rs) ≤ 1) (sym s.requests) (mark_fewer s.member member 1 (requests_at tx at) was)
      by (inr (inl m)) = subst (λ (rs : List Request). length (filter (is_standing member) rs) ≤ 1) (sym m.requests) (of (same_member m.request.member member) refl)
        where
          one : 1 ≤ 1
          one = grind arith

          of : (b : Bool) → same_member m.request.member member ≡ b → length (filter (is_standing member) (requests_at tx at ++ m.request ∷ [])) ≤ 1
          of false is = rw (filter_more (is_standing member) (requests_at tx at) m.request (rw is refl)) was
          of true is = rw (filter_last (is_standing member) (requests_at tx at) m.request (rw (is, m.unserved) refl), none_found (is_standing member) (requests_at tx at) none) one
            where
              e : m.request.member ≡ member
              e = same_member-true m.request.member member is

              none : standing_request tx at member ≡ None
              none = subst (λ (x : Member). standing_request tx at x ≡ None) e (m.alone (ap (is_crossed later) e ∙ whole))

  -- ---- each is its server's

  for_last : (server : ServerNo) (ops : List Op) (op : Op) → AreFor server ops → queue.is_for server op ≡ true → AreFor server (ops ++ op ∷ [])
  for_last server [] op fits one = (one, tt)
  for_last server (x ∷ xs) op fits one = (fits.0, for_last server xs op fits.1 one)

  for_rest : (server : ServerNo) (ops : List Op) → AreFor server ops → AreFor server (drop 1 ops)
  for_rest server [] fits = tt
  for_rest server (x ∷ xs) fits = fits.1

  pub fits_on : StandsOnce tx → (member : Member) (at : RequestNo) → AreFor member.server (standing_ops later at member.node member.server)
  fits_on w member at = by (at_number at)
    where
      by : AtNumber here tx later at → AreFor member.server (map op_in (filter (is_standing member) (requests_at later at)))
      by (inl same) = subst (λ (rs : List Request). AreFor member.server (map op_in (filter (is_standing member) rs))) (sym same) (w.fits member at)
      by (inr (inr s)) = subst (λ (rs : List Request). AreFor member.server (map op_in (filter (is_standing member) rs))) (sym s.requests) (of (same_member s.member member) refl)
        where
          of : (b : Bool) → same_member s.member member ≡ b → AreFor member.server (map op_in (filter (is_standing member) (mark_served s.member (requests_at tx at))))
          of true is = subst (λ (x : Member). AreFor member.server (map op_in (filter (is_standing member) (mark_served x (requests_at tx at))))) (sym (same_member-true s.member member is))
              (rw (mark_first member (requests_at tx at)) (for_rest member.server (standing_ops tx at member.node member.server) (w.fits member at)))
          of false is = rw (mark_apart s.member member (λ e. true≢false (sym (subst (λ (x : Member). same_member s.member x ≡ true) e (same_member-self s.member)) ∙ is)) (requests_at tx at)) (w.fits member at)
      by (inr (inl m)) = subst (λ (rs : List Request). AreFor member.server (map op_in (filter (is_standing member) rs))) (sym m.requests) (of (same_member m.request.member member) refl)
        where
          of : (b : Bool) → same_member m.request.member member ≡ b → AreFor member.server (map op_in (filter (is_standing member) (requests_at tx at ++ m.request ∷ [])))
          of false is = rw (filter_more (is_standing member) (requests_at tx at) m.request (rw is refl)) (w.fits member at)
          of true is = rw (filter_last (is_standing member) (requests_at tx at) m.request (rw (is, m.unserved) refl), map_last op_in (filter (is_standing member) (requests_at tx at)) m.request)
              (for_last member.server (standing_ops tx at member.node member.server) m.request.op (w.fits member at) (subst (λ (x : Member). is_for m.request.op x ≡ true) (same_member-true m.request.member member is) m.fits))
