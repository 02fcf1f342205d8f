-- What all places hold of a transaction goes on as a request is issued that has room, and as one that stands is served.
use Rattle.qs_world_runs.proofs.Words.{◌≡◌, inl, ℕ, ◌+◌, ◌<◌, ◌≤◌, ◌&&◌, not, Bool, true, false, List, [], ◌∷◌, ◌++◌, length, Option, Some, None, suc, refl, sym, ap, subst, ◌∙◌, arith, if◌then◌else◌, insert_entry, is_at, filter, find, list_all, lookup, set_value, is_some, unwrap_or, Ordering, Less, Equal, Greater, same_member-true, same_member, Class, Member, ServerNo, Tid, life_equal, life_itself, put_rises, request_total, TransactionValue, changed_value, is_standing, life, life_cmp}
use Rattle.qs_world_runs.proofs.Words.{mark_served, no_part, request_cmp, requests_in, standing_request, Life, Part, Request, RequestNo, class_of, is_two_phase, at_server, Field, IsMember, IsPlaced, IsPresent, goes_there, standing, plus_zero, and_false, zero_le, same_Some, and_parts}
use Rattle.qs_base.specs.declared.identifiers.Class.TheVariants as classes
use Rattle.qs_book_machine.specs.Transaction.{lent, made_part, part_of, served_in, serving_part}
use Rattle.qs_world_runs.proofs.Entries.{each_at, each_changed, each_on, each_put, changed_rises}
use Rattle.qs_world_runs.proofs.PlacedTx.{Grows, HasRoom, IsBare, PlacedIn, SameNodes, back, bare_on, life_total, placed_on, request_equal, request_self, there}

-- ---- counts

abbrev pub one_if : Bool → ℕ
one_if b = if b then 1 else 0

pub count_more : {A : Type 0} (p : A → Bool) (rs : List A) (r : A) → length (filter p (rs ++ r ∷ [])) ≡ length (filter p rs) + one_if (p r)
count_more p [] r = by (p r) refl
  where
    by : (b : Bool) → p r ≡ b → length (filter p (r ∷ [])) ≡ 0 + one_if (p r)
    by true is = rw is refl
    by false is = rw is refl
count_more p (x ∷ rs) r = by (p x) refl (count_more p rs r)
  where
    more : (a b c : ℕ) → a ≡ b + c → suc a ≡ suc b + c
    more a b c is = omega (arith, is)

    by : (b : Bool) → p x ≡ b → length (filter p (rs ++ r ∷ [])) ≡ length (filter p rs) + one_if (p r) → length (filter p (x ∷ rs ++ r ∷ [])) ≡ length (filter p (x ∷ rs)) + one_if (p r)
    by true is rest = rw is (more (length (filter p (rs ++ r ∷ []))) (length (filter p rs)) (one_if (p r)) rest)
    by false is rest = rw is rest

all_more : (p : Request → Bool) (rs : List Request) (r : Request) → list_all p rs ≡ true → p r ≡ true → list_all p (rs ++ r ∷ []) ≡ true
all_more p [] r all is = rw is refl
all_more p (x ∷ rs) r all is = by (p x) refl all (all_more p rs r)
  where
    by : (b : Bool) → p x ≡ b → (p x && list_all p rs) ≡ true → (list_all p rs ≡ true → p r ≡ true → list_all p (rs ++ r ∷ []) ≡ true) → (p x && list_all p (rs ++ r ∷ [])) ≡ true
    by true so all more = rw so (more (rw so at all) is)
    by false so all more = absurd (cc (rw so at all))

module _ (member : Member) where
  -- one of them is served
  marked : (m : Member) (rs : List Request) → is_some (find (is_standing member) rs) ≡ true → length (filter (is_standing m) (mark_served member rs)) + one_if (same_member member m) ≡ length (filter (is_standing m) rs)
  marked m [] some = absurd (cc some)
  marked m (r ∷ rs) some = by (is_standing member r) refl some (marked m rs)
    where
      by : (b : Bool) → is_standing member r ≡ b → is_some (find (is_standing member) (r ∷ rs)) ≡ true
          → (is_some (find (is_standing member) rs) ≡ true → length (filter (is_standing m) (mark_served member rs)) + one_if (same_member member m) ≡ length (filter (is_standing m) rs))
          → length (filter (is_standing m) (mark_served member (r ∷ rs))) + one_if (same_member member m) ≡ length (filter (is_standing m) (r ∷ rs))
      by true is some more = rw (is, and_false (same_member r.member m)) (own (same_member member m) refl)
        where
          its : (same_member r.member member ≡ true) × (not r.served ≡ true)
          its = and_parts (same_member r.member member) (not r.served) is

          member_is : r.member ≡ member
          member_is = same_member-true r.member member its.0

          more_one : (a : ℕ) → a + 1 ≡ suc a
          more_one a = omega arith

          own : (c : Bool) → same_member member m ≡ c → length (filter (is_standing m) rs) + one_if (same_member member m) ≡ length (filter (is_standing m) (r ∷ rs))
          own true same = let stands : is_standing m r ≡ true = ap (λ (x : Member). same_member x m && not r.served) member_is ∙ rw (same, its.1) refl in rw (same, stands) (more_one (length (filter (is_standing m) rs)))
          own false apart = let stands : is_standing m r ≡ false = ap (λ (x : Member). same_member x m && not r.served) member_is ∙ rw apart refl in rw (apart, stands) (plus_zero (length (filter (is_standing m) rs)))
      by false is some more = rw is (either (is_standing m r) refl)
        where
          rest : length (filter (is_standing m) (mark_served member rs)) + one_if (same_member member m) ≡ length (filter (is_standing m) rs)
          rest = more (rw is at some)

          step : (a b c : ℕ) → a + b ≡ c → suc a + b ≡ suc c
          step a b c is = omega (arith, is)

          either : (c : Bool) → is_standing m r ≡ c → length (filter (is_standing m) (r ∷ mark_served member rs)) + one_if (same_member member m) ≡ length (filter (is_standing m) (r ∷ rs))
          either true so = rw so (step (length (filter (is_standing m) (mark_served member rs))) (one_if (same_member member m)) (length (filter (is_standing m) rs)) rest)
          either false so = rw so rest

  marked_there : (at : RequestNo) (rs : List Request) → list_all (goes_there at) rs ≡ true → list_all (goes_there at) (mark_served member rs) ≡ true
  marked_there at [] all = refl
  marked_there at (r ∷ rs) all = by (is_standing member r) refl (goes_there at r) refl all (marked_there at rs)
    where
      by : (b : Bool) → is_standing member r ≡ b → (c : Bool) → goes_there at r ≡ c → (goes_there at r && list_all (goes_there at) rs) ≡ true → (list_all (goes_there at) rs ≡ true → list_all (goes_there at) (mark_served member rs) ≡ true)
          → list_all (goes_there at) (mark_served member (r ∷ rs)) ≡ true
      by b is false so all more = absurd (cc (rw so at all))
      by true is true so all more = rw (is, so) (rw so at all)
      by false is true so all more = rw (is, so) (more (rw so at all))

-- ---- a request is issued

pub record MoreRoom (tid : Tid) (old new : Field) (at : RequestNo) (request : Request) : Type 0 where
  pub runs : new.up at.link.to.0 ≡ true → (server : ServerNo) → there tid old at server + one_if (is_standing (at_server at.link.to server) request) ≤ there tid new at server
  pub stopped : new.up at.link.to.0 ≡ false → (server : ServerNo) → back tid old at server + one_if (is_standing (at_server at.link.to server) request) ≤ back tid new at server

module _ (tid : Tid) (old new : Field) (g : Grows tid old new) (at : RequestNo) (request : Request) (from_in : at.link.from.0 < new.size) (to_in : at.link.to.0 < new.size) (goes : goes_there at request ≡ true) (room : MoreRoom tid old new at request) where
  nothing : IsPlaced tid old at []
  nothing = record {
    from_in = subst (λ (k : ℕ). at.link.from.0 < k) g.nodes.size from_in;
    to_in = subst (λ (k : ℕ). at.link.to.0 < k) g.nodes.size to_in;
    there = refl;
    runs = λ up server. zero_le (there tid old at server);
    stopped = λ off server. zero_le (back tid old at server);
  }

  one_more : (rs : List Request) → IsPlaced tid old at rs → IsPlaced tid new at (rs ++ request ∷ [])
  one_more rs p = record {
    from_in = from_in;
    to_in = to_in;
    there = all_more (goes_there at) rs request p.there goes;
    runs = λ up server. longer (standing at server (rs ++ request ∷ [])) (standing at server rs) (one_if (is_standing (at_server at.link.to server) request)) (there tid old at server) (there tid new at server)
        (count_more (is_standing (at_server at.link.to server)) rs request) (p.runs (sym (g.nodes.up at.link.to.0) ∙ up) server) (room.runs up server);
    stopped = λ off server. longer (standing at server (rs ++ request ∷ [])) (standing at server rs) (one_if (is_standing (at_server at.link.to server) request)) (back tid old at server) (back tid new at server)
        (count_more (is_standing (at_server at.link.to server)) rs request) (p.stopped (sym (g.nodes.up at.link.to.0) ∙ off) server) (room.stopped off server);
  }
    where
      longer : (a b c d e : ℕ) → a ≡ b + c → b ≤ d → d + c ≤ e → a ≤ e
      longer a b c d e p q r = omega (arith, p, q, r)

  pub in_issued : (requests : List (RequestNo × List Request)) (parts : List (Life × Part)) → PlacedIn tid old requests parts → PlacedIn tid new (insert_entry request_cmp requests at (requests_in requests at ++ request ∷ [])) parts
  in_issued requests parts p = record {
    numbers = put_rises request_cmp request_total at (requests_in requests at ++ request ∷ []) requests p.numbers;
    members = p.members;
    each = each_put request_cmp request_total request_equal request_self (IsPlaced tid old) (IsPlaced tid new) at (requests_in requests at ++ request ∷ []) (λ k rs apart. placed_on tid old new g.nodes k (g.room k) rs) (by (lookup (is_at (request_cmp at)) requests) refl) requests p.numbers p.each;
    bare = each_on life_cmp (IsBare old) (IsBare new) (bare_on old new g.nodes) parts p.bare;
  }
    where
      by : (o : Option (List Request)) → lookup (is_at (request_cmp at)) requests ≡ o → IsPlaced tid new at (unwrap_or (lookup (is_at (request_cmp at)) requests) [] ++ request ∷ [])
      by None none = subst (λ (o : Option (List Request)). IsPlaced tid new at (unwrap_or o [] ++ request ∷ [])) (sym none) (one_more [] nothing)
      by (Some rs) found = subst (λ (o : Option (List Request)). IsPlaced tid new at (unwrap_or o [] ++ request ∷ [])) (sym found) (one_more rs (each_at request_cmp request_total request_equal request_self (IsPlaced tid old) at requests rs found p.each))

-- ---- one that stands is served, at a node that runs

pub record LessRoom (tid : Tid) (old new : Field) (at : RequestNo) (member : Member) : Type 0 where
  pub nodes : SameNodes old new
  pub up : new.up at.link.to.0 ≡ true
  pub others : (k : RequestNo) → is_at (request_cmp at) k ≡ false → HasRoom tid old new k
  pub own : (server : ServerNo) → there tid old at server ≤ there tid new at server + one_if (same_member member (at_server at.link.to server))

module _ (tid : Tid) (old new : Field) (at : RequestNo) (member : Member) (less : LessRoom tid old new at member) where
  one_less : (rs : List Request) → is_some (find (is_standing member) rs) ≡ true → IsPlaced tid old at rs → IsPlaced tid new at (mark_served member rs)
  one_less rs stands p = record {
    from_in = subst (λ (k : ℕ). at.link.from.0 < k) (sym less.nodes.size) p.from_in;
    to_in = subst (λ (k : ℕ). at.link.to.0 < k) (sym less.nodes.size) p.to_in;
    there = marked_there member at rs p.there;
    runs = λ up server. fewer (standing at server (mark_served member rs)) (standing at server rs) (one_if (same_member member (at_server at.link.to server))) (there tid old at server) (there tid new at server)
        (marked member (at_server at.link.to server) rs stands) (p.runs (sym (less.nodes.up at.link.to.0) ∙ up) server) (less.own server);
    stopped = λ off. absurd (let on : new.up at.link.to.0 ≡ true = less.up in cc (on, off));
  }
    where
      fewer : (a b c d e : ℕ) → a + c ≡ b → b ≤ d → d ≤ e + c → a ≤ e
      fewer a b c d e p q r = omega (arith, p, q, r)

  -- the part of its member is a new value
  pub in_served : (requests : List (RequestNo × List Request)) (parts : List (Life × Part)) (k : Life) (part : Part) → IsBare new k part → is_some (find (is_standing member) (requests_in requests at)) ≡ true → PlacedIn tid old requests parts
      → PlacedIn tid new (changed_value (is_at (request_cmp at)) (mark_served member) requests) (insert_entry life_cmp parts k part)
  in_served requests parts k part its stands p = record {
    numbers = changed_rises request_cmp request_total request_equal request_self (is_at (request_cmp at)) (mark_served member) requests p.numbers;
    members = put_rises life_cmp life_total k part parts p.members;
    each = each_changed request_cmp request_total request_equal request_self (IsPlaced tid old) (IsPlaced tid new) at (mark_served member) (λ l rs apart. placed_on tid old new less.nodes l (less.others l apart) rs) requests
        (λ rs found. one_less rs (subst (λ (o : Option (List Request)). is_some (find (is_standing member) (unwrap_or o [])) ≡ true) found stands)) p.numbers p.each;
    bare = each_put life_cmp life_total life_equal life_itself (IsBare old) (IsBare new) k part (λ l u apart. bare_on old new less.nodes l u) its parts p.members p.bare;
  }

-- ---- a value that was put is changed

module _ {K X : Type 0} (cmp : K → K → Ordering) (k : K) (v : X) (f : X → X) (itself : cmp k k ≡ Equal) where
  put_changed : (es : List (K × X)) → changed_value (is_at (cmp k)) f (insert_entry cmp es k v) ≡ insert_entry cmp es k (f v)
  put_changed es = by (lookup (is_at (cmp k)) (insert_entry cmp es k v)) refl
    where
      some : (es : List (K × X)) → lookup (is_at (cmp k)) (insert_entry cmp es k v) ≡ Some v
      some [] = rw itself refl
      some (e ∷ es) = one (cmp k e.0) refl (some es)
        where
          one : (r : Ordering) → cmp k e.0 ≡ r → lookup (is_at (cmp k)) (insert_entry cmp es k v) ≡ Some v → lookup (is_at (cmp k)) (insert_entry cmp (e ∷ es) k v) ≡ Some v
          one Less is more = rw (is, itself) refl
          one Equal is more = rw (is, is) refl
          one Greater is more = rw (is, is) more

      set : (es : List (K × X)) → set_value (is_at (cmp k)) (insert_entry cmp es k v) (f v) ≡ insert_entry cmp es k (f v)
      set [] = rw itself refl
      set (e ∷ es) = one (cmp k e.0) refl (set es)
        where
          one : (r : Ordering) → cmp k e.0 ≡ r → set_value (is_at (cmp k)) (insert_entry cmp es k v) (f v) ≡ insert_entry cmp es k (f v) → set_value (is_at (cmp k)) (insert_entry cmp (e ∷ es) k v) (f v) ≡ insert_entry cmp (e ∷ es) k (f v)
          one Less is more = rw (is, itself) refl
          one Equal is more = rw (is, is) refl
          one Greater is more = rw (is, is) (ap (λ (xs : List (K × X)). e ∷ xs) more)

      by : (o : Option X) → lookup (is_at (cmp k)) (insert_entry cmp es k v) ≡ o → (elim o [ None ↦ insert_entry cmp es k v | Some u ↦ set_value (is_at (cmp k)) (insert_entry cmp es k v) (f u) ]) ≡ insert_entry cmp es k (f v)
      by None none = absurd (let found : lookup (is_at (cmp k)) (insert_entry cmp es k v) ≡ Some v = some es in cc (none, found))
      by (Some u) found = ap (λ (x : X). set_value (is_at (cmp k)) (insert_entry cmp es k v) (f x)) (same_Some u v (sym found ∙ some es)) ∙ set es

-- ---- the whole transaction, in that incarnation of its member

module _ (tid : Tid) (tx : TransactionValue) (old new : Field) (at : RequestNo) (member : Member) (inc stamp : ℕ) (done : Bool) (less : LessRoom tid old new at member) (is_member : IsMember member.server) (present : IsPresent new (life member inc))
    (stands : is_some (standing_request tx at member) ≡ true) (p : PlacedIn tid old tx.requests tx.parts) where
  abbrev k : Life
  k = life member inc

  abbrev before : Part
  before = part_of tx member inc

  before_cast : is_two_phase (class_of member.server.0) ≡ true → before.covered ≡ before.voted
  before_cast two = by (lookup (is_at (life_cmp k)) tx.parts) refl
    where
      by : (o : Option Part) → lookup (is_at (life_cmp k)) tx.parts ≡ o → (unwrap_or (lookup (is_at (life_cmp k)) tx.parts) no_part).covered ≡ (unwrap_or (lookup (is_at (life_cmp k)) tx.parts) no_part).voted
      by None none = rw none refl
      by (Some part) found = rw found ((each_at life_cmp life_total life_equal life_itself (IsBare old) k tx.parts part found p.bare).cast two)

  before_made : class_of member.server.0 ≡ classes.Activity → before.made ≡ before.served
  before_made is = by (lookup (is_at (life_cmp k)) tx.parts) refl
    where
      by : (o : Option Part) → lookup (is_at (life_cmp k)) tx.parts ≡ o → (unwrap_or (lookup (is_at (life_cmp k)) tx.parts) no_part).made ≡ (unwrap_or (lookup (is_at (life_cmp k)) tx.parts) no_part).served
      by None none = rw none refl
      by (Some part) found = rw found ((each_at life_cmp life_total life_equal life_itself (IsBare old) k tx.parts part found p.bare).made is)

  cast_in : (c : Class) (part : Part) → part.covered ≡ part.voted → (serving_part c stamp done part).covered ≡ (serving_part c stamp done part).voted
  cast_in classes.Activity part same = same
  cast_in classes.Recoverable part same = same
  cast_in classes.Volatile part same = same
  cast_in classes.Immediate part same = same
  cast_in classes.Standard part same = same
  cast_in classes.Delayed part same = same

  -- by a member that is no client
  pub served_placed : (class_of member.server.0 ≡ classes.Activity → ⊥) → PlacedIn tid new (served_in at member inc stamp done tx).requests (served_in at member inc stamp done tx).parts
  served_placed plain = in_served tid old new at member less tx.requests tx.parts k (serving_part (class_of member.server.0) stamp done before)
      (record { member = is_member; cast = λ two. cast_in (class_of member.server.0) before (before_cast two); made = λ is. absurd (plain is); lives = inl present }) stands p

  -- by a client that takes the loan
  pub lent_placed : class_of member.server.0 ≡ classes.Activity → PlacedIn tid new (lent member inc (served_in at member inc stamp done tx)).requests (lent member inc (served_in at member inc stamp done tx)).parts
  lent_placed is = subst (λ (ps : List (Life × Part)). PlacedIn tid new (served_in at member inc stamp done tx).requests ps)
      (sym (put_changed life_cmp k (serving_part (class_of member.server.0) stamp done before) made_part (life_itself k) tx.parts))
      (in_served tid old new at member less tx.requests tx.parts k (made_part (serving_part (class_of member.server.0) stamp done before))
      (record { member = is_member; cast = λ two. cast_in (class_of member.server.0) before (before_cast two); made = λ its. made_in (class_of member.server.0) before is (before_made is); lives = inl present }) stands p)
    where
      made_in : (c : Class) (part : Part) → c ≡ classes.Activity → part.made ≡ part.served → (made_part (serving_part c stamp done part)).made ≡ (made_part (serving_part c stamp done part)).served
      made_in classes.Activity part its same = ap (λ (n : ℕ). n + 1) same
      made_in classes.Recoverable part its same = absurd (cc its)
      made_in classes.Volatile part its same = absurd (cc its)
      made_in classes.Immediate part its same = absurd (cc its)
      made_in classes.Standard part its same = absurd (cc its)
      made_in classes.Delayed part its same = absurd (cc its)
