-- The turn of a node's packets: where the node is down, where none was carried, and where one is taken in.
use Rattle.std.proofs.Common.{◌≡◌, ◌∙◌, ◌↔◌, ◌<◌, ◌+◌, ap, subst, sym, refl, inr, ℕ, suc, Bool, true, false, List, [], arith}
use Rattle.std.specs.Prelude.{Option, Some, None, Result, Ok, ◌==◌, is_some, not}
use Rattle.qs_base.specs.declared.memory.NoMemory.{NoMemory}
use Rattle.qs_disk.specs.Disk.{DiskState}
use Rattle.qs_link.specs.Link.{Took, TookNone}
use Rattle.qs_link.specs.declared.ends.NodeEnds.{NodeEnds}
use Rattle.qs_packet.specs.declared.packet.Packet.{Packet}
use Rattle.qs_node_step.specs.declared.event.ClientAnswer.{ClientAnswer}
use Rattle.qs_cell_peers.specs.Links.{IsSameNode, LinksValue, SameInto, SameOut, carried_from, into_of, is_peer_of}
use Rattle.qs_cell_peers.specs.Peers.{is_peer}
use Rattle.qs_cell_peers.specs.declared.heard.Heard.{Heard}
use Rattle.qs_cell.specs.Hearing.{BreaksBelow, BreaksFrom, BreaksHearing, HandsUp, HasTaken, Hears, HearsBelow, HearsFrom, HearsIn, HearsTimes, Post, TakesIn}
use Rattle.qs_cell.specs.State.{cause_of}
use Rattle.qs_cell.specs.Visits as visits
use Rattle.qs_cell.specs.Visits.{all_delivered}
use Rattle.qs_cell.specs.declared.state.CellState.{CellState}
use Rattle.qs_cell.specs.declared.state.CellState.TheVariants as states
use Rattle.qs_cell.specs.declared.stopped.Stopped.{Stopped}

-- ---- whose turn it is

-- a number of which packets were carried is another node's
pub peer_by : (links : LinksValue) (m count place : ℕ) → count ≡ carried_from links m → place < count → is_peer_of links m ≡ true
peer_by links m count place is less = by (is_peer_of links m) refl
  where
    by : (b : Bool) → is_peer_of links m ≡ b → b ≡ true
    by true e = refl
    by false e = absurd (let none : count ≡ 0 = rw e at is in omega (arith, none, less))

pub peer_still : (old new : LinksValue) (m : ℕ) → IsSameNode old new → is_peer_of old m ≡ true → is_peer_of new m ≡ true
peer_still old new m same peer = ap (λ k. is_peer k new.me.0 m) same.size ∙ (ap (λ n. is_peer old.size n.0 m) same.me ∙ peer)

pub same_on : (a b c : LinksValue) → IsSameNode a b → IsSameNode b c → IsSameNode a c
same_on a b c first second = record { size = second.size ∙ first.size; me = second.me ∙ first.me }

pub none_taken : (taken : Option Packet) (P : Type 0) → (TookNone (Ok taken) ↔ P) → taken ≡ None ↔ P
none_taken taken P is = (λ e. is.0 (ap Ok e), λ p. let e : ◌≡◌ {A = Result (Option Packet) NoMemory} (Ok taken) (Ok None) = is.1 p in cc e)

-- by what the link answered
pub has_taken : (m : ℕ) (result : Result (Option Packet) NoMemory) (taken : Option Packet) (old new : LinksValue) → result ≡ Ok taken → IsSameNode old new → SameOut (λ k. true) old new
    → SameInto (λ k. not (k == m)) old new → Took result (into_of old m) (into_of new m) → (into_of new m).ring ≡ (into_of old m).ring → (TookNone result ↔ ((into_of old m).inbox ≡ []))
    → HasTaken m taken old new
has_taken m result None old new is same out others took ring none = record {
  same = same;
  out = out;
  others = others;
  took = subst (λ (r : Result (Option Packet) NoMemory). Took r (into_of old m) (into_of new m)) is took;
  ring = ring;
  none = none_taken None ((into_of old m).inbox ≡ []) (subst (λ (r : Result (Option Packet) NoMemory). TookNone r ↔ ((into_of old m).inbox ≡ [])) is none);
}
has_taken m result (Some packet) old new is same out others took ring none = record {
  same = same;
  out = out;
  others = others;
  took = subst (λ (r : Result (Option Packet) NoMemory). Took r (into_of old m) (into_of new m)) is took;
  ring = ring;
  none = none_taken (Some packet) ((into_of old m).inbox ≡ []) (subst (λ (r : Result (Option Packet) NoMemory). TookNone r ↔ ((into_of old m).inbox ≡ [])) is none);
}

-- ---- a turn

module _ {D : Type 0} (told : Type 0) (state : D → DiskState) (own size : D → ℕ) where
  module _ (m : ℕ) (old : Post D) (ready : CellState D) (same : visits.IsSameNode old.seat.node ready) where
    -- what comes to a node that is down stays there
    pub hears_down : is_some (cause_of ready) ≡ true → Hears told state own size m old (record { seat = record { node = ready; ends = old.seat.ends }; links = old.links })
    hears_down down = record { ready = ready; same = same; turn = by ready down }
      where
        by : (node : CellState D) → is_some (cause_of node) ≡ true → HearsIn told state own size m node old (record { seat = record { node = node; ends = old.seat.ends }; links = old.links })
        by (states.Up running) is = absurd (let no : false ≡ true = is in cc no)
        by (states.Down stopped) is = refl

    pub hears_none : (left : LinksValue) → is_some (cause_of ready) ≡ false → HasTaken m None old.links left
        → Hears told state own size m old (record { seat = record { node = ready; ends = old.seat.ends }; links = left })
    hears_none left up has = record { ready = ready; same = same; turn = by ready up }
      where
        by : (node : CellState D) → is_some (cause_of node) ≡ false → HearsIn told state own size m node old (record { seat = record { node = node; ends = old.seat.ends }; links = left })
        by (states.Up running) is = (None, (left, (has, refl)))
        by (states.Down stopped) is = absurd (let no : true ≡ false = is in cc no)

    pub hears_some : (packet : Packet) (left : LinksValue) (new : CellState D) (ends : List NodeEnds) (answers : List ClientAnswer) → is_some (cause_of ready) ≡ false → HasTaken m (Some packet) old.links left
        → TakesIn told state own size packet ready new answers → ends ≡ all_delivered answers old.seat.ends → Hears told state own size m old (record { seat = record { node = new; ends = ends }; links = left })
    hears_some packet left new ends answers up has takes is_ends = record { ready = ready; same = same; turn = by ready up takes }
      where
        by : (node : CellState D) → is_some (cause_of node) ≡ false → TakesIn told state own size packet node new answers
            → HearsIn told state own size m node old (record { seat = record { node = new; ends = ends }; links = left })
        by (states.Up running) is it = (Some packet, (left, (has, (refl, (answers, (it, is_ends))))))
        by (states.Down stopped) is it = absurd (let no : true ≡ false = is in cc no)

  pub hearing_breaks : (m : ℕ) (old new : Post D) (ready : CellState D) (packet : Packet) (answers : List ClientAnswer) → visits.IsSameNode old.seat.node ready → HasTaken m (Some packet) old.links new.links
      → TakesIn told state own size packet ready new.seat.node answers → BreaksHearing told state own size m old new
  hearing_breaks m old new ready packet answers same has takes = inr (ready, (same, (packet, (has, (answers, takes)))))

  -- a node that is down takes nothing in
  pub stays_down : (packet : Packet) (stopped : Stopped D) (new : CellState D) (answers : List ClientAnswer) → TakesIn told state own size packet (states.Down stopped) new answers → new ≡ states.Down stopped
  stays_down packet stopped new answers t = (subst (λ (h : Heard). HandsUp told state own size h packet t.mid new answers) t.takes.1 t.hands).0 ∙ t.takes.0

  -- ---- one turn more

  one_more : (n : ℕ) → n + 1 ≡ suc n
  one_more n = omega arith

  pub times_more : (m count : ℕ) (old mid new : Post D) → HearsTimes told state own size m count old mid → Hears told state own size m mid new → HearsTimes told state own size m (count + 1) old new
  times_more m count old mid new before turn = subst (λ n. HearsTimes told state own size m n old new) (sym (one_more count)) (mid, (before, turn))

  pub below_more : (m : ℕ) (old mid new : Post D) → HearsBelow told state own size m old mid → HearsFrom told state own size m mid new → HearsBelow told state own size (m + 1) old new
  below_more m old mid new before turns = subst (λ n. HearsBelow told state own size n old new) (sym (one_more m)) (mid, (before, turns))

  -- ---- memory was refused in the next one

  pub from_breaks : (m count all : ℕ) (old mid new : Post D) → all ≡ carried_from old.links m → count < all → HearsTimes told state own size m count old mid → BreaksHearing told state own size m mid new
      → BreaksFrom told state own size m old new
  from_breaks m count all old mid new is less before broken = record { count = count; few = subst (λ n. count < n) is less; mid = mid; heard = before; breaks = broken }

  pub below_breaks : (nodes at count : ℕ) (old mid new : Post D) → count ≡ nodes → at < count → HearsBelow told state own size at old mid → BreaksFrom told state own size at mid new
      → BreaksBelow told state own size nodes old new
  below_breaks nodes at count old mid new is less before broken = record { at = at; low = subst (λ n. at < n) is less; mid = mid; heard = before; breaks = broken }
