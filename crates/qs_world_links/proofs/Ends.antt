-- The ends of a link as one of them goes on, and the other is left alone.
use Rattle.std.proofs.Common.{◌≡◌, ◌≤◌, List, [], ◌∷◌, ◌++◌, length, drop, refl, sym, ap, subst, ◌∙◌, append_assoc, append-nil, arith, length-append}
use Rattle.std.specs.Prelude.{All}
use Rattle.std.proofs.lemmas.List.{append_cancel_left, drop-append-le}
use Rattle.std.proofs.lemmas.List.Elements.{All-cons, All-head, All-nil, All-tail}
use Rattle.qs_link.specs.Lane.{DrawValue, Drawn, Fed, FeedValue, IsFifo}
use Rattle.qs_link.specs.Plan.{OutgoingValue, PutNone}
use Rattle.rtrb.specs.Ring.{SameConsumer, received, sent}

-- ---- lists

pub all_front : {T : Type 0} (P : T → Type 0) (xs ys : List T) → All P (xs ++ ys) → All P xs
all_front P [] ys all = All-nil P
all_front P (x ∷ xs) ys all = All-cons P x xs (All-head P x (xs ++ ys) all) (all_front P xs ys (All-tail P x (xs ++ ys) all))

pub all_behind : {T : Type 0} (P : T → Type 0) (xs ys : List T) → All P (xs ++ ys) → All P ys
all_behind P [] ys all = all
all_behind P (x ∷ xs) ys all = all_behind P xs ys (All-tail P x (xs ++ ys) all)

nothing_more : {T : Type 0} (xs on : List T) → xs ≡ xs ++ on → on ≡ []
nothing_more xs on same = append_cancel_left xs on [] (sym same ∙ sym (append-nil xs))

-- ---- nothing was put or taken

none_fed : {T : Type 0} (f : FeedValue T) → Fed [] f f
none_fed f = record { on = []; outbox = append-nil f.outbox; sent = sym (append-nil (sent f.ring)); ring = ((refl, refl, refl, refl), refl) }

pub none_put : (o : OutgoingValue) → PutNone o o
none_put o = record { out = none_fed o.feed; held = refl; count = refl; plan = refl }

-- ---- what is taken was carried

module _ {T : Type 0} (ts : List T) (d e : DrawValue T) (same : e.ring ≡ d.ring) where
  pub was_carried : Drawn ts d e → d.inbox ≡ ts ++ e.inbox
  was_carried drawn =
      let none : drawn.on ≡ [] = nothing_more (received d.ring) drawn.on (sym (ap (λ r. received r) same) ∙ drawn.received) in
      sym (append-nil d.inbox) ∙ (ap (λ (l : List T). d.inbox ++ l) (sym none) ∙ drawn.inbox)

  pub drawn_carried : d.inbox ≡ ts ++ e.inbox → Drawn ts d e
  drawn_carried is = record {
    on = [];
    inbox = append-nil d.inbox ∙ is;
    received = ap (λ r. received r) same ∙ sym (append-nil (received d.ring));
    ring = subst (λ r. SameConsumer d.ring r) (sym same) ((refl, refl, refl, refl), refl);
  }

pub none_drawn : {T : Type 0} (d : DrawValue T) → Drawn [] d d
none_drawn d = drawn_carried [] d d refl refl

-- ---- the ring stays first in, first out

pub fifo_fed : {T : Type 0} (ps : List T) (f g : FeedValue T) (d : DrawValue T) → IsFifo f d → Fed ps f g → IsFifo g d
fifo_fed {T} ps f g d was fed =
    ap (λ (l : List T). received d.ring ++ drop (length (received d.ring)) l) fed.sent
    ∙ ap (λ (l : List T). received d.ring ++ l) (drop-append-le (length (received d.ring)) (sent f.ring) fed.on short)
    ∙ sym (append_assoc (received d.ring) (drop (length (received d.ring)) (sent f.ring)) fed.on)
    ∙ ap (λ (l : List T). l ++ fed.on) was
    ∙ sym fed.sent
  where
    short : length (received d.ring) ≤ length (sent f.ring)
    short = omega (arith, ap length was, length-append (received d.ring) (drop (length (received d.ring)) (sent f.ring)))
