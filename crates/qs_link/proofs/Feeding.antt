-- What was put and what was taken, one act after another.
use Rattle.std.proofs.Common.{◌≡◌, sym, ap, ◌∙◌, arith, List, ◌++◌, length, drop}
use Rattle.std.proofs.lemmas.List.{append_assoc, append_cancel_left}
use Rattle.rtrb.specs.Ring.{sent, received}
use Rattle.qs_link.specs.Lane.{FeedValue, DrawValue, Fed, Drawn, IsFifo, on_way}

joined : {T : Type 0} → (xs ps qs on more bs cs : List T) → xs ++ ps ≡ on ++ bs → bs ++ qs ≡ more ++ cs → xs ++ (ps ++ qs) ≡ (on ++ more) ++ cs
joined xs ps qs on more bs cs p q =
    sym (append_assoc xs ps qs) ∙ ap (λ l. l ++ qs) p ∙ append_assoc on bs qs ∙ ap (λ l. on ++ l) q ∙ sym (append_assoc on more cs)

pub fed_trans : {T : Type 0} → (ps qs : List T) (a b c : FeedValue T) → Fed ps a b → Fed qs b c → Fed (ps ++ qs) a c
fed_trans ps qs a b c p q = record {
  on = p.on ++ q.on;
  outbox = joined a.outbox ps qs p.on q.on b.outbox c.outbox p.outbox q.outbox;
  sent = q.sent ∙ ap (λ l. l ++ q.on) p.sent ∙ append_assoc (sent a.ring) p.on q.on;
  ring = grind (arith, p.ring, q.ring);
}

between : {T : Type 0} → (rd ys more sf xs left : List T) → rd ++ left ≡ sf → (rd ++ ys) ++ more ≡ sf ++ xs → ys ++ more ≡ left ++ xs
between rd ys more sf xs left was is =
    append_cancel_left rd (ys ++ more) (left ++ xs) (sym (append_assoc rd ys more) ∙ is ∙ ap (λ l. l ++ xs) (sym was) ∙ append_assoc rd left xs)

moved : {T : Type 0} → (di ys ts dj more left xs fo fp ps : List T) → di ++ ys ≡ ts ++ dj → ys ++ more ≡ left ++ xs → fo ++ ps ≡ xs ++ fp → ts ++ (dj ++ more ++ fp) ≡ (di ++ left ++ fo) ++ ps
moved di ys ts dj more left xs fo fp ps inbox ring outbox =
    ap (λ l. ts ++ l) (append_assoc dj more fp)
    ∙ sym (append_assoc ts dj (more ++ fp))
    ∙ ap (λ l. l ++ (more ++ fp)) (sym inbox)
    ∙ append_assoc di ys (more ++ fp)
    ∙ ap (λ l. di ++ l) (sym (append_assoc ys more fp) ∙ ap (λ l. l ++ fp) ring ∙ append_assoc left xs fp ∙ ap (λ l. left ++ l) (sym outbox) ∙ sym (append_assoc left fo ps))
    ∙ sym (append_assoc di (left ++ fo) ps)
    ∙ ap (λ l. l ++ ps) (sym (append_assoc di left fo))

pub went : {T : Type 0} → (ps ts : List T) (f g : FeedValue T) (d e : DrawValue T) → IsFifo f d → IsFifo g e → Fed ps f g → Drawn ts d e → ts ++ on_way g e ≡ on_way f d ++ ps
went ps ts f g d e was is p q =
    moved d.inbox q.on ts e.inbox (drop (length (received e.ring)) (sent g.ring)) (drop (length (received d.ring)) (sent f.ring)) p.on f.outbox g.outbox ps q.inbox
    (between (received d.ring) q.on (drop (length (received e.ring)) (sent g.ring)) (sent f.ring) p.on (drop (length (received d.ring)) (sent f.ring)) was
    (ap (λ l. l ++ drop (length (received e.ring)) (sent g.ring)) (sym q.received) ∙ is ∙ p.sent))
    p.outbox
