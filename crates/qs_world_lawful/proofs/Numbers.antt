-- What waits stays numbered: where as many were given, where fewer wait, and as one more gets the next number.
use Rattle.qs_world_lawful.proofs.Words.{◌≡◌, ℕ, ◌+◌, ◌==◌, ◌<◌, ◌≤◌, Bool, true, false, List, [], ◌∷◌, ◌++◌, refl, sym, subst, arith, nat_tests, filter, list_any, ◌&&◌, ◌||◌, if◌then◌else◌, same_member-true, same_member, Member, NodeNo, last_number, no_peer, peer_of, same_node, Engage, PeerPart, is_answered_by, Outstanding, Every, AreApart, AreNumbered, eqb-true}
use Rattle.qs_engage.specs.Engage as engage
use Rattle.qs_engage.specs.Engage.{with_peer}
use Rattle.qs_world_lawful.specs.NodeFacts.{given_to}
use Rattle.qs_world_lawful.proofs.Counting.{index_alike}
use Rattle.qs_world_lawful.proofs.LogFrames.{every_on}
use Rattle.qs_world_lawful.proofs.LogRecords.{every_append, every_filter}

-- what a change of a peer leaves of how many requests went to it, it leaves of all
pub peer_sent : (peer : NodeNo) (part : PeerPart) (e : Engage) → part.sent ≡ (peer_of e peer).sent → (other : NodeNo) → (peer_of (with_peer peer part e) other).sent ≡ (peer_of e other).sent
peer_sent peer part e same other = index_alike (λ (p : PeerPart). p.sent) e.peers peer.0 other.0 part no_peer same

-- ---- as many were given, or more

abbrev IsGiven : NodeNo → ℕ → Engage → Outstanding → Type 0
IsGiven here local e request = request.number ≤ given_to here local e request.member.node

more_given : (here : NodeNo) (local now : ℕ) (e f : Engage) → ((to : NodeNo) → given_to here local e to ≤ given_to here now f to) → (waiting : List Outstanding) → Every (IsGiven here local e) waiting → Every (IsGiven here now f) waiting
more_given here local now e f more waiting all = every_on (IsGiven here local e) (IsGiven here now f) (λ request is. let up = more request.member.node in grind (arith, is, up)) waiting all

pub as_many_given : (here : NodeNo) (local : ℕ) (e f : Engage) (waiting : List Outstanding) → ((peer : NodeNo) → (peer_of f peer).sent ≡ (peer_of e peer).sent) → AreNumbered here local e waiting → AreNumbered here local f waiting
as_many_given here local e f waiting same h = record { apart = h.apart; given = more_given here local local e f (λ to. by (same_node to here) to) waiting h.given }
  where
    by : (b : Bool) (to : NodeNo) → (if b then local else (peer_of e to).sent) ≤ (if b then local else (peer_of f to).sent)
    by true to = grind (arith)
    by false to = let is = same to in grind (arith, is)

-- ---- fewer wait

none_left : (test pick : Outstanding → Bool) (waiting : List Outstanding) → list_any test waiting ≡ false → list_any test (filter pick waiting) ≡ false
none_left test pick [] none = refl
none_left test pick (request ∷ rest) none = by (test request) (pick request) refl refl none (none_left test pick rest)
  where
    by : (a b : Bool) → test request ≡ a → pick request ≡ b → (a || list_any test rest) ≡ false → (list_any test rest ≡ false → list_any test (filter pick rest) ≡ false) → list_any test (filter pick (request ∷ rest)) ≡ false
    by true b is picked none more = absurd (cc none)
    by false true is picked none more = rw (picked, is) (more none)
    by false false is picked none more = rw picked (more none)

apart_left : (pick : Outstanding → Bool) (waiting : List Outstanding) → AreApart waiting → AreApart (filter pick waiting)
apart_left pick [] apart = tt
apart_left pick (request ∷ rest) apart = by (pick request) refl (apart_left pick rest apart.1)
  where
    by : (b : Bool) → pick request ≡ b → AreApart (filter pick rest) → AreApart (filter pick (request ∷ rest))
    by true picked more = rw picked (none_left (is_answered_by request.member request.number) pick rest apart.0, more)
    by false picked more = rw picked more

pub fewer_wait : (here : NodeNo) (local : ℕ) (e : Engage) (pick : Outstanding → Bool) (waiting : List Outstanding) → AreNumbered here local e waiting → AreNumbered here local e (filter pick waiting)
fewer_wait here local e pick waiting h = record { apart = apart_left pick waiting h.apart; given = every_filter (IsGiven here local e) pick waiting h.given }

-- ---- one more waits, with a number that was not given

none_more : (test : Outstanding → Bool) (waiting : List Outstanding) (request : Outstanding) → list_any test waiting ≡ false → test request ≡ false → list_any test (waiting ++ request ∷ []) ≡ false
none_more test [] request none is = rw is refl
none_more test (first ∷ rest) request none is = by (test first) none (λ left. none_more test rest request left is)
  where
    by : (b : Bool) → (b || list_any test rest) ≡ false → (list_any test rest ≡ false → list_any test (rest ++ request ∷ []) ≡ false) → (b || list_any test (rest ++ request ∷ [])) ≡ false
    by true none more = absurd (cc none)
    by false none more = more none

module _ (here : NodeNo) (local : ℕ) (e : Engage) (request : Outstanding) (fresh : given_to here local e request.member.node < request.number) where
  other : (waits : Outstanding) → IsGiven here local e waits → is_answered_by waits.member waits.number request ≡ false
  other waits given = by (same_member request.member waits.member) refl
    where
      above : (a b c : ℕ) → a ≤ b → b < c → (c == a) ≡ false
      above a b c low high = grind (arith, nat_tests, low, high)

      by : (b : Bool) → same_member request.member waits.member ≡ b → (b && (request.number == waits.number)) ≡ false
      by false is = refl
      by true is = above waits.number (given_to here local e waits.member.node) request.number given
          (subst (λ (m : Member). given_to here local e m.node < request.number) (same_member-true request.member waits.member is) fresh)

  apart_more : (waiting : List Outstanding) → AreApart waiting → Every (IsGiven here local e) waiting → AreApart (waiting ++ request ∷ [])
  apart_more [] apart given = (refl, tt)
  apart_more (first ∷ rest) apart given = (none_more (is_answered_by first.member first.number) rest request apart.0 (other first given.0), apart_more rest apart.1 given.1)

  pub one_more : (now : ℕ) (f : Engage) (waiting : List Outstanding) → ((to : NodeNo) → given_to here local e to ≤ given_to here now f to) → request.number ≤ given_to here now f request.member.node
      → AreNumbered here local e waiting → AreNumbered here now f (waiting ++ request ∷ [])
  one_more now f waiting more its h = record {
    apart = apart_more waiting h.apart h.given;
    given = every_append (IsGiven here now f) waiting (request ∷ []) (more_given here local now e f more waiting h.given) (its, tt);
  }

-- ---- the next number, of requests to another node and of those to servers here

pub sends_next : (here : NodeNo) (local : ℕ) (e : Engage) (request : Outstanding) (waiting : List Outstanding) → same_node request.member.node here ≡ false → (peer_of (engage.sent request.member.node e) request.member.node).sent ≡ (peer_of e request.member.node).sent + 1
    → ((to : NodeNo) → (to.0 == request.member.node.0) ≡ false → (peer_of (engage.sent request.member.node e) to).sent ≡ (peer_of e to).sent) → (peer_of e request.member.node).sent + 1 ≡ request.number
    → AreNumbered here local e waiting → AreNumbered here local (engage.sent request.member.node e) (waiting ++ request ∷ [])
sends_next here local e request waiting away counts others next = one_more here local e request (rw away (let n = next in grind (arith, n))) local (engage.sent request.member.node e) waiting more (rw away (let n = next in let c = counts in grind (arith, n, c)))
  where
    more : (to : NodeNo) → given_to here local e to ≤ given_to here local (engage.sent request.member.node e) to
    more to = by (same_node to here)
      where
        up : (b : Bool) → (to.0 == request.member.node.0) ≡ b → (peer_of e to).sent ≤ (peer_of (engage.sent request.member.node e) to).sent
        up true is = subst (λ (k : ℕ). (peer_of e (record { 0 = k })).sent ≤ (peer_of (engage.sent request.member.node e) (record { 0 = k })).sent) (sym (eqb-true to.0 request.member.node.0 is)) (let c = counts in grind (arith, c))
        up false is = let c = others to is in grind (arith, c)

        by : (b : Bool) → (if b then local else (peer_of e to).sent) ≤ (if b then local else (peer_of (engage.sent request.member.node e) to).sent)
        by true = grind (arith)
        by false = up (to.0 == request.member.node.0) refl

pub issues_next : (here : NodeNo) (local : ℕ) (e : Engage) (request : Outstanding) (waiting : List Outstanding) → same_node request.member.node here ≡ true → local + 1 ≡ request.number → AreNumbered here local e waiting → AreNumbered here request.number e (waiting ++ request ∷ [])
issues_next here local e request waiting near next = one_more here local e request (rw near (let n = next in grind (arith, n))) request.number e waiting (λ to. by (same_node to here) to) (rw near (grind (arith)))
  where
    by : (b : Bool) (to : NodeNo) → (if b then local else (peer_of e to).sent) ≤ (if b then request.number else (peer_of e to).sent)
    by true to = let n = next in grind (arith, n)
    by false to = grind (arith)
