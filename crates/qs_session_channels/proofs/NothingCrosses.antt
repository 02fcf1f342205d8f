-- Each move leaves what belongs to other incarnations as it is, and so do many.
use Rattle.std.proofs.Common.{◌≡◌, ◌≢◌, ◌⊎◌, Bool, ℕ, ◌+◌, ◌<◌, ◌≤◌, true, false, refl, sym, subst, ap, ◌∙◌, arith, List, [], ◌∷◌, ◌++◌, inl, inr}
use Rattle.std.proofs.lemmas.Bool.{cases_eq}
use Rattle.std.proofs.lemmas.Bool.Decides.{nat_tests}
use Rattle.qs_session_channels.specs.Channels.{Channels, Move, Wait, Post, Meet, Notice, Hand, Crash, Restart, May, moved, MovesOn}
use Rattle.qs_session_channels.specs.Laws.{Lasts}

pub lasts_move : {M : Type 0} → (m : Move M) (c : Channels M) → May m c → Lasts c (moved m c)
lasts_move (Wait a b x) c may = grind (arith, nat_tests, may)
lasts_move (Post a b x) c may = grind (arith, nat_tests, may)
lasts_move (Meet a b j) c may = grind (arith, nat_tests, may)
lasts_move (Notice a b j) c may = grind (arith, nat_tests, may)
lasts_move (Hand a b x) c may = grind (arith, nat_tests, may)
lasts_move (Crash a) c may = grind (arith, nat_tests, may)
lasts_move (Restart a i) c may = grind (arith, nat_tests, may)

lasts_trans : {M : Type 0} → (c d f : Channels M) → Lasts c d → Lasts d f → Lasts c f
lasts_trans {M} c d f p q = record {
  inc = λ n. grind (arith, p.inc n, q.inc n);
  rises = λ n m same. grind (arith, same, p.inc n, q.inc n, p.rises n m, q.rises n m);
  old_peer = λ n m i lt. on_peer n m i lt (cases_eq (d.inc n) (c.inc n));
  old_self = λ n m i j lt. q.old_self n m i j (grind (arith, lt, p.inc n)) ∙ p.old_self n m i j lt;
  posted_before = λ n m j lt. on_posted n m j lt (cases_eq (d.inc n) (c.inc n));
  posted_by_old = λ n m i j lt. q.posted_by_old n m i j (grind (arith, lt, p.inc n)) ∙ p.posted_by_old n m i j lt;
}
  where
    on_peer : (n m i : ℕ) → i < c.peer n m → (d.inc n ≡ c.inc n) ⊎ (d.inc n ≢ c.inc n) → f.handed m n i (c.inc n) ≡ c.handed m n i (c.inc n)
    on_peer n m i lt (inl is) = subst (λ (j : ℕ). f.handed m n i j ≡ d.handed m n i j) is (q.old_peer n m i (grind (arith, lt, p.rises n m is))) ∙ p.old_peer n m i lt
    on_peer n m i lt (inr other) = q.old_self n m i (c.inc n) (grind (arith, p.inc n, other)) ∙ p.old_peer n m i lt

    on_posted : (n m j : ℕ) → j < c.peer n m → (d.inc n ≡ c.inc n) ⊎ (d.inc n ≢ c.inc n) → f.posted n m (c.inc n) j ≡ c.posted n m (c.inc n) j
    on_posted n m j lt (inl is) = subst (λ (i : ℕ). f.posted n m i j ≡ d.posted n m i j) is (q.posted_before n m j (grind (arith, lt, p.rises n m is))) ∙ p.posted_before n m j lt
    on_posted n m j lt (inr other) = q.posted_by_old n m (c.inc n) j (grind (arith, p.inc n, other)) ∙ p.posted_before n m j lt

lasts_same : {M : Type 0} → (c : Channels M) → Lasts c c
lasts_same c = grind arith

pub lasts : {M : Type 0} → (ms : List (Move M)) (c d : Channels M) → MovesOn c ms d → Lasts c d
lasts {M} [] c d on = subst (λ (x : Channels M). Lasts c x) (sym on) (lasts_same c)
lasts (m ∷ ms) c d on = lasts_trans c (moved m c) d (lasts_move m c on.0) (lasts ms (moved m c) d on.1)
