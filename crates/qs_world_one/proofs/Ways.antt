-- What is on its way in a lane, as something is put in at one end or taken out at the other while the ring stays.
use Rattle.std.proofs.Common.{◌≡◌, ◌∙◌, ap, sym, List, [], ◌∷◌, ◌++◌, append_assoc, append-nil, drop, length}
use Rattle.qs_link.specs.Lane.{DrawValue, Drawn, Fed, FeedValue, on_way}
use Rattle.rtrb.specs.Ring.{received, sent}

-- a list that is itself and more has no more
pub no_more : {T : Type 0} (xs ys : List T) → xs ≡ xs ++ ys → ys ≡ []
no_more [] ys e = sym e
no_more (x ∷ xs) ys e = no_more xs ys (cc e)

module _ {T : Type 0} where
  abbrev way_with : List T → List T → List T → List T
  way_with inbox ring outbox = inbox ++ ring ++ outbox

  -- put behind the outbox
  pub put_way : (f : FeedValue T) (d : DrawValue T) (xs : List T) → on_way (record f { outbox = f.outbox ++ xs }) d ≡ on_way f d ++ xs
  put_way f d xs = sym (append_assoc (d.inbox ++ drop (length (received d.ring)) (sent f.ring)) f.outbox xs)

  -- fed, with nothing pushed into the ring
  pub fed_way : (put : List T) (f g : FeedValue T) (d : DrawValue T) → Fed put f g → g.ring ≡ f.ring → on_way g d ≡ on_way f d ++ put
  fed_way put f g d fed same =
      ap (λ (l : List T). way_with d.inbox (drop (length (received d.ring)) l) g.outbox) sent_same
      ∙ (ap (λ (l : List T). way_with d.inbox (drop (length (received d.ring)) (sent f.ring)) l) outbox_is
      ∙ put_way f d put)
    where
      sent_same : sent g.ring ≡ sent f.ring
      sent_same = ap sent same

      none : fed.on ≡ []
      none = no_more (sent f.ring) fed.on (sym sent_same ∙ fed.sent)

      outbox_is : g.outbox ≡ f.outbox ++ put
      outbox_is = sym (fed.outbox ∙ ap (λ (l : List T). l ++ g.outbox) none)

  -- taken from the inbox, with nothing popped from the ring
  pub drawn_way : (taken : List T) (f : FeedValue T) (d e : DrawValue T) → Drawn taken d e → e.ring ≡ d.ring → on_way f d ≡ taken ++ on_way f e
  drawn_way taken f d e drawn same =
      ap (λ (l : List T). way_with l (drop (length (received d.ring)) (sent f.ring)) f.outbox) inbox_is
      ∙ (ap (λ (l : List T). way_with (taken ++ e.inbox) (drop (length l) (sent f.ring)) f.outbox) (sym received_same)
      ∙ (ap (λ (l : List T). l ++ f.outbox) (append_assoc taken e.inbox (drop (length (received e.ring)) (sent f.ring)))
      ∙ append_assoc taken (e.inbox ++ drop (length (received e.ring)) (sent f.ring)) f.outbox))
    where
      received_same : received e.ring ≡ received d.ring
      received_same = ap received same

      none : drawn.on ≡ []
      none = no_more (received d.ring) drawn.on (sym received_same ∙ drawn.received)

      inbox_is : d.inbox ≡ taken ++ e.inbox
      inbox_is = sym (append-nil d.inbox) ∙ (ap (λ (l : List T). d.inbox ++ l) (sym none) ∙ drawn.inbox)

  -- the first of the inbox is the first of what is on its way
  pub first_way : (f : FeedValue T) (d : DrawValue T) (x : T) (xs : List T) → d.inbox ≡ x ∷ xs → on_way f d ≡ x ∷ on_way f (record d { inbox = xs })
  first_way f d x xs e = ap (λ (l : List T). way_with l (drop (length (received d.ring)) (sent f.ring)) f.outbox) e
