-- What is known of a transaction towards a node, through each act: what waits, which incarnation was reached, and whether a
-- request was open when the node restarted from an incarnation, or later.
use Rattle.qs_book_laws.proofs.Words.{◌≡◌, ◌⊎◌, inl, inr, ℕ, ◌+◌, ◌-◌, ◌<◌, ◌≤◌, ◌==◌, ◌&&◌, ◌||◌, Bool, true, false, List, Option, Some, None, refl, sym, ap, subst, ◌∙◌, if◌then◌else◌, arith, le_refl, nat_tests, is_some, nat_lt, list_any, option_map, lookup, is_at, insert_entry, NodeNo, TransactionValue, changed_value, peer_of, node_cmp, heard, heard_by, is_by_client, is_by_files, is_open_link, is_open_to, is_gone, issued, counted, Link, Peer, Request, RequestNo, Sent, or_left}
use Rattle.qs_book_machine.specs.Transaction.{at_first, reached_by, reached, with_reached}
use Rattle.qs_book_laws.proofs.Holding.{clash}
use Rattle.qs_book_laws.proofs.Maps.{changed_alike, lookup_put, put_known}
use Rattle.qs_book_laws.proofs.Reaching.{has_peer, issued_peer, issued_opens, issued_apart, counted_closes, counted_peer, counted_apart, heard_peer}
use Rattle.qs_book_laws.proofs.Unanswered.{same_node, node_itself}
use Rattle.qs_base_lemmas.proofs.Tests.{le_lt_le}

-- a transaction of which only that is seen
abbrev pub ways : List (Link × Sent) → List (NodeNo × Peer) → TransactionValue
ways sent peers = record at_first { sent = sent; peers = peers }

below_inc : (gone r inc : ℕ) → nat_lt gone r ≡ true → r ≤ inc → nat_lt gone inc ≡ true
below_inc gone r inc h k = grind (arith, nat_tests)

module _ (node : NodeNo) (gone : ℕ) where
  pub record Before (g : Bool) (inc w : ℕ) (sent : List (Link × Sent)) (peers : List (NodeNo × Peer)) : Type 0 where
    pub waits : (peer_of (ways sent peers) node).waiting ≡ w
    pub below : (peer_of (ways sent peers) node).reached ≤ inc
    pub has : is_open_to (ways sent peers) node ≡ true → has_peer node (ways sent peers) ≡ true
    pub is : is_gone (ways sent peers) node inc gone ≡ g

  pub record After (g : Bool) (inc w : ℕ) (sent : List (Link × Sent)) (peers : List (NodeNo × Peer)) : Type 0 where
    pub waits : (peer_of (ways sent peers) node).waiting ≡ w
    pub below : (peer_of (ways sent peers) node).reached ≤ inc
    pub has : is_open_to (ways sent peers) node ≡ true → has_peer node (ways sent peers) ≡ true
    pub kept : g ≡ true → is_gone (ways sent peers) node inc gone ≡ true
    pub back : is_gone (ways sent peers) node inc gone ≡ true → (g ≡ true) ⊎ (is_open_to (ways sent peers) node ≡ true)

  -- nothing happened
  pub stay : (g : Bool) (inc w : ℕ) (sent : List (Link × Sent)) (peers : List (NodeNo × Peer)) → Before g inc w sent peers → After g inc w sent peers
  stay g inc w sent peers b = record { waits = b.waits; below = b.below; has = b.has; kept = λ h. b.is ∙ h; back = λ h. inl (sym b.is ∙ h) }

  -- the node restarted
  pub restarted : (g : Bool) (inc new w : ℕ) (sent : List (Link × Sent)) (peers : List (NodeNo × Peer)) → inc < new → Before g inc w sent peers → After g new w sent peers
  restarted g inc new w sent peers less b = record {
    waits = b.waits;
    below = le_lt_le r inc new b.below less;
    has = b.has;
    kept = λ h. rises (is_open_to (ways sent peers) node) (b.is ∙ h);
    back = falls (is_open_to (ways sent peers) node) refl;
  }
    where
      r : ℕ
      r = (peer_of (ways sent peers) node).reached

      more : (a b c : ℕ) → nat_lt a b ≡ true → b < c → nat_lt a c ≡ true
      more a b c h k = grind (arith, nat_tests)

      rises : (o : Bool) → nat_lt gone (if o then inc else r) ≡ true → nat_lt gone (if o then new else r) ≡ true
      rises true h = more gone inc new h less
      rises false h = h

      falls : (o : Bool) → is_open_to (ways sent peers) node ≡ o → is_gone (ways sent peers) node new gone ≡ true → (g ≡ true) ⊎ (is_open_to (ways sent peers) node ≡ true)
      falls true is h = inr is
      falls false is h =
          inl (sym b.is ∙ (ap (λ (x : Bool). nat_lt gone (if x then inc else r)) is ∙ (sym (ap (λ (x : Bool). nat_lt gone (if x then new else r)) is) ∙ h)))

  -- an issue: it opens towards the node, or goes elsewhere
  module _ (g : Bool) (inc w : ℕ) (tx : TransactionValue) (b : Before g inc w tx.sent tx.peers) where
    abbrev r : ℕ
    r = (peer_of tx node).reached

    -- what was gone is below the present incarnation
    gone_below : g ≡ true → nat_lt gone inc ≡ true
    gone_below h = by (is_open_to tx node) (b.is ∙ h)
      where
        by : (o : Bool) → nat_lt gone (if o then inc else (peer_of tx node).reached) ≡ true → nat_lt gone inc ≡ true
        by true k = k
        by false k = below_inc gone (peer_of tx node).reached inc k b.below

    pub issued_near : (at : RequestNo) (request : Request) (place : ℕ) → (at.link.to.0 == node.0) ≡ true → (is_by_files request || is_by_client request) ≡ true
        → After g inc (if is_by_client request then w + 1 else w) (issued at request inc place tx).sent (issued at request inc place tx).peers
    issued_near at request place near who = record {
      waits = ap (λ (q : Peer). q.waiting) peer ∙ more (is_by_client request);
      below = subst (λ (q : Peer). q.reached ≤ inc) (sym peer) (le_refl inc);
      has = λ h. known;
      kept = λ h. ap (λ (o : Bool). nat_lt gone (if o then inc else (peer_of new node).reached)) opens ∙ gone_below h;
      back = λ h. inr opens;
    }
      where
        new : TransactionValue
        new = issued at request inc place tx

        opens : is_open_to new node ≡ true
        opens = issued_opens node at request inc place tx near who

        to_is : at.link.to ≡ node
        to_is = same_node at.link.to node near

        peer : peer_of new node ≡ reached_by request inc (peer_of tx node)
        peer =
            issued_peer node at request inc place tx
            ∙ (ap (λ (c : Bool). if c then reached_by request inc (peer_of tx at.link.to) else peer_of tx node) near
            ∙ ap (λ (n : NodeNo). reached_by request inc (peer_of tx n)) to_is)

        more : (c : Bool) → (if c then (peer_of tx node).waiting + 1 else (peer_of tx node).waiting) ≡ (if c then w + 1 else w)
        more true = ap (λ (n : ℕ). n + 1) b.waits
        more false = b.waits

        known : has_peer node new ≡ true
        known =
            subst (λ (n : NodeNo). is_some (lookup (is_at (node_cmp node)) (insert_entry node_cmp tx.peers n (reached_by request inc (peer_of tx at.link.to)))) ≡ true) (sym to_is)
            (ap (λ (o : Option Peer). is_some o) (lookup_put node_cmp node (reached_by request inc (peer_of tx at.link.to)) (node_itself node) tx.peers))

    -- where what is open and the peer are the same
    same_after : (new : TransactionValue) → is_open_to new node ≡ is_open_to tx node → peer_of new node ≡ peer_of tx node → (has_peer node tx ≡ true → has_peer node new ≡ true) → Before g inc w new.sent new.peers
    same_after new same peer known = record {
      waits = ap (λ (q : Peer). q.waiting) peer ∙ b.waits;
      below = subst (λ (q : Peer). q.reached ≤ inc) (sym peer) b.below;
      has = λ h. known (b.has (sym same ∙ h));
      is =
          ap (λ (o : Bool). nat_lt gone (if o then inc else (peer_of new node).reached)) same
          ∙ (ap (λ (q : Peer). nat_lt gone (if is_open_to tx node then inc else q.reached)) peer ∙ b.is);
    }

    pub issued_far : (at : RequestNo) (request : Request) (peer_inc place : ℕ) → (at.link.to.0 == node.0) ≡ false → Before g inc w (issued at request peer_inc place tx).sent (issued at request peer_inc place tx).peers
    issued_far at request peer_inc place far =
        same_after (issued at request peer_inc place tx) (issued_apart node at request peer_inc place tx far)
        (issued_peer node at request peer_inc place tx ∙ ap (λ (c : Bool). if c then reached_by request peer_inc (peer_of tx at.link.to) else peer_of tx node) far)
        (λ h. put_known node_cmp at.link.to (reached_by request peer_inc (peer_of tx at.link.to)) (is_at (node_cmp node)) tx.peers h)

    still_known : (to : NodeNo) (f : Peer → Peer) → is_some (lookup (is_at (node_cmp node)) tx.peers) ≡ true → is_some (lookup (is_at (node_cmp node)) (changed_value (is_at (node_cmp to)) f tx.peers)) ≡ true
    still_known to f h = known (lookup (is_at (node_cmp node)) (changed_value (is_at (node_cmp to)) f tx.peers)) (lookup (is_at (node_cmp node)) tx.peers) (changed_alike (is_at (node_cmp to)) nothing f (λ q. refl) (is_at (node_cmp node)) tx.peers) h
      where
        nothing : Peer → ℕ
        nothing q = 0

        known : (x y : Option Peer) → option_map nothing x ≡ option_map nothing y → is_some y ≡ true → is_some x ≡ true
        known (Some x) y e k = refl
        known None None e k = k
        known None (Some y) e k = absurd (cc e)

    -- a count
    pub counted_near : (link : Link) (from upto : ℕ) → (link.to.0 == node.0) ≡ true → Before g inc w (counted link from upto inc tx).sent (counted link from upto inc tx).peers
    counted_near link from upto near = by (has_peer node tx) refl
      where
        new : TransactionValue
        new = counted link from upto inc tx

        to_is : link.to ≡ node
        to_is = same_node link.to node near

        peer : (c : Bool) → has_peer node tx ≡ c → peer_of new node ≡ (if c then with_reached (reached tx node inc) (peer_of tx node) else peer_of tx node)
        peer c is =
            counted_peer node link from upto inc tx
            ∙ (ap (λ (x : Bool). if x && has_peer node tx then with_reached (reached tx link.to inc) (peer_of tx node) else peer_of tx node) near
            ∙ (ap (λ (x : Bool). if x then with_reached (reached tx link.to inc) (peer_of tx node) else peer_of tx node) is
            ∙ ap (λ (n : NodeNo). if c then with_reached (reached tx n inc) (peer_of tx node) else peer_of tx node) to_is))

        waits_of : (c : Bool) → (if c then with_reached (reached tx node inc) (peer_of tx node) else peer_of tx node).waiting ≡ (peer_of tx node).waiting
        waits_of true = refl
        waits_of false = refl

        closes : (c : Bool) → has_peer node tx ≡ c → is_open_to new node ≡ true → is_open_to tx node ≡ true
        closes c is = counted_closes node link from upto inc tx (ap (λ (q : Peer). q.waiting) (peer c is) ∙ waits_of c)

        shut : (x : Bool) → is_open_to new node ≡ x → (c : Bool) → has_peer node tx ≡ c → is_open_to tx node ≡ false → x ≡ false
        shut false e c is none = refl
        shut true e c is none = absurd (clash (closes c is e) none)

        reached_of : (o : Bool) → is_open_to tx node ≡ o → reached tx node inc ≡ (if o then inc else r)
        reached_of o is = ap (λ (x : Bool). if x then inc else r) is

        at_most : (o : Bool) → (if o then inc else r) ≤ inc
        at_most true = le_refl inc
        at_most false = b.below

        gone_same : (o x : Bool) → is_open_to tx node ≡ o → is_open_to new node ≡ x → (o ≡ false → x ≡ false) → (k : ℕ) → k ≡ (if o then inc else r) → nat_lt gone (if x then inc else k) ≡ g
        gone_same true true is new_is f k e = sym (ap (λ (y : Bool). nat_lt gone (if y then inc else r)) is) ∙ b.is
        gone_same true false is new_is f k e = ap (λ (n : ℕ). nat_lt gone n) e ∙ (sym (ap (λ (y : Bool). nat_lt gone (if y then inc else r)) is) ∙ b.is)
        gone_same false true is new_is f k e = absurd (cc (f refl))
        gone_same false false is new_is f k e = ap (λ (n : ℕ). nat_lt gone n) e ∙ (sym (ap (λ (y : Bool). nat_lt gone (if y then inc else r)) is) ∙ b.is)

        known_new : has_peer node tx ≡ true → has_peer node new ≡ true
        known_new h = still_known link.to (with_reached (reached tx link.to inc)) h

        by : (c : Bool) → has_peer node tx ≡ c → Before g inc w new.sent new.peers
        by true is = record {
          waits = ap (λ (q : Peer). q.waiting) (peer true is) ∙ b.waits;
          below = subst (λ (q : Peer). q.reached ≤ inc) (sym (peer true is)) (subst (λ (n : ℕ). n ≤ inc) (sym (reached_of (is_open_to tx node) refl)) (at_most (is_open_to tx node)));
          has = λ h. known_new is;
          is =
              ap (λ (x : Bool). nat_lt gone (if x then inc else (peer_of new node).reached)) refl
              ∙ gone_same (is_open_to tx node) (is_open_to new node) refl refl (λ none. shut (is_open_to new node) refl true is none) (peer_of new node).reached (ap (λ (q : Peer). q.reached) (peer true is));
        }
        by false is =
            let none : is_open_to tx node ≡ false = unknown (is_open_to tx node) refl is in
            same_after new (shut (is_open_to new node) refl false is none ∙ sym none) (peer false is) known_new
          where
            unknown : (o : Bool) → is_open_to tx node ≡ o → has_peer node tx ≡ false → o ≡ false
            unknown false e n = refl
            unknown true e n = absurd (clash (b.has e) n)

    pub counted_far : (link : Link) (from upto peer_inc : ℕ) → (link.to.0 == node.0) ≡ false → Before g inc w (counted link from upto peer_inc tx).sent (counted link from upto peer_inc tx).peers
    counted_far link from upto peer_inc far =
        same_after (counted link from upto peer_inc tx) (counted_apart node link from upto peer_inc tx far)
        (counted_peer node link from upto peer_inc tx ∙ ap (λ (x : Bool). if x && has_peer node tx then with_reached (reached tx link.to peer_inc) (peer_of tx node) else peer_of tx node) far)
        (λ h. still_known link.to (with_reached (reached tx link.to peer_inc)) h)

    -- an answer to one of the requests that wait
    pub heard_near : (to : NodeNo) (less : ℕ) → (to.0 == node.0) ≡ true → w ≡ 1 + less → Before g inc less (heard to inc tx).sent (heard to inc tx).peers
    heard_near to less near one = record {
      waits = ap (λ (q : Peer). q.waiting) peer ∙ (ap (λ (n : ℕ). n - 1) (b.waits ∙ one) ∙ minus less);
      below = subst (λ (q : Peer). q.reached ≤ inc) (sym peer) (le_refl inc);
      has = λ h. still_known to (heard_by inc) (b.has opens);
      is = last (is_open_to new node) ∙ (sym (ap (λ (o : Bool). nat_lt gone (if o then inc else r)) opens) ∙ b.is);
    }
      where
        new : TransactionValue
        new = heard to inc tx

        minus : (n : ℕ) → (1 + n) - 1 ≡ n
        minus n = omega arith

        some : (n : ℕ) → nat_lt 0 (1 + n) ≡ true
        some n = grind (arith, nat_tests)

        opens : is_open_to tx node ≡ true
        opens = or_left (nat_lt 0 (peer_of tx node).waiting) (list_any (is_open_link node) tx.sent) (ap (λ (n : ℕ). nat_lt 0 n) (b.waits ∙ one) ∙ some less)

        peer : peer_of new node ≡ heard_by inc (peer_of tx node)
        peer =
            heard_peer node to inc tx
            ∙ (ap (λ (x : Bool). if x && has_peer node tx then heard_by inc (peer_of tx node) else peer_of tx node) near
            ∙ ap (λ (x : Bool). if x then heard_by inc (peer_of tx node) else peer_of tx node) (b.has opens))

        last : (o : Bool) → nat_lt gone (if o then inc else (peer_of new node).reached) ≡ nat_lt gone inc
        last true = refl
        last false = ap (λ (q : Peer). nat_lt gone q.reached) peer

    pub heard_far : (to : NodeNo) (k : ℕ) → (to.0 == node.0) ≡ false → Before g inc w (heard to k tx).sent (heard to k tx).peers
    heard_far to k far =
        let peer : peer_of (heard to k tx) node ≡ peer_of tx node = heard_peer node to k tx ∙ ap (λ (x : Bool). if x && has_peer node tx then heard_by k (peer_of tx node) else peer_of tx node) far in
        same_after (heard to k tx) (ap (λ (q : Peer). nat_lt 0 q.waiting || list_any (is_open_link node) tx.sent) peer) peer (λ h. still_known to (heard_by k) h)
