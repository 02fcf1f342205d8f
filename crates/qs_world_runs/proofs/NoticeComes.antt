-- A later incarnation of another node becomes known: where no request of the transaction is left of the earlier ones, as many are on their way.
use Rattle.qs_world_runs.proofs.Words.{◌≡◌, ℕ, ◌+◌, ◌-◌, ◌<◌, ◌≤◌, ◌==◌, ◌&&◌, not, Bool, true, false, List, [], ◌++◌, map, zero, suc, refl, sym, ap, subst, ◌∙◌, arith, if◌then◌else◌, le_refl, eqb-true, and_parts, nat_tests, ServerNo, Tid, Channels, RequestNo, Message, Work, work_on, Noticed, taken_by, Parcel, World, sent_to, first_work, pending, pending_from, Field, asked, field_of, message_of, waiting, field_amid, taken, eqb-self, zero_least, eq_le}
use Rattle.qs_world_runs.specs.PlacesComes.{NoticeComes}
use Rattle.qs_world_runs.proofs.FieldBegins.{three_more}
use Rattle.qs_world_runs.proofs.FieldTaken.{ask_more}
use Rattle.qs_world_runs.proofs.LeftOutcomes.{begin_leaves}
use Rattle.qs_world_runs.proofs.PlacedActs.{open_grown}
use Rattle.qs_world_runs.proofs.PlacedTx.{Grows, back, there}
use Rattle.qs_world_runs.proofs.PlacesLeft.{asked_more}

module _ (t : Tid) (server : ServerNo) (number : ℕ) where
  abbrev ask : List Parcel → ℕ
  ask ps = asked t server number (map message_of ps)

  -- what is of the incarnations that are passed over asks for nothing
  skipped : (f : ℕ → List Parcel) (top : ℕ) → ((i : ℕ) → i < top → ask (f i) ≡ 0) → (k i more j more_all : ℕ) → j ≡ k + i → more_all ≡ k + more → j ≤ top → ask (pending_from f i more_all) ≤ ask (pending_from f j more)
  skipped f top each zero i more j more_all p q low = eq_le (ask (pending_from f i more_all)) (ask (pending_from f j more)) (ap (λ (l : ℕ). ask (pending_from f i l)) (bare more more_all q) ∙ ap (λ (l : ℕ). ask (pending_from f l more)) (sym (bare i j p)))
    where
      bare : (a b : ℕ) → b ≡ 0 + a → b ≡ a
      bare a b e = omega (arith, e)
  skipped f top each (suc k) i more j more_all p q low = subst (λ (l : ℕ). ask (pending_from f i l) ≤ ask (pending_from f j more)) (sym (one_more k more more_all q))
      (sums (ask (f i ++ pending_from f (suc i) (k + more))) (ask (f i)) (ask (pending_from f (suc i) (k + more))) (ask (pending_from f j more)) (ask_more t server number (f i) (pending_from f (suc i) (k + more))) (each i (below k i j top p low))
      (skipped f top each k (suc i) more j (k + more) (next k i j p) refl low))
    where
      one_more : (k a b : ℕ) → b ≡ suc k + a → b ≡ suc (k + a)
      one_more k a b e = omega (arith, e)

      next : (k i j : ℕ) → j ≡ suc k + i → j ≡ k + suc i
      next k i j p = omega (arith, p)

      below : (k i j top : ℕ) → j ≡ suc k + i → j ≤ top → i < top
      below k i j top p low = omega (arith, p, low)

      sums : (a b c d : ℕ) → a ≡ b + c → b ≡ 0 → c ≤ d → a ≤ d
      sums a b c d p q r = omega (arith, p, q, r)

  -- what asks for nothing adds none
  added : (xs ys : List Message) (b d : Bool) (zs : List Message) → asked t server number zs ≡ 0 → asked t server number xs ≤ asked t server number ys → asked t server number (xs ++ (if b then zs else [])) ≤ asked t server number (ys ++ (if d then zs else []))
  added xs ys b d zs none less = sums (asked t server number (xs ++ (if b then zs else []))) (asked t server number (ys ++ (if d then zs else []))) (asked t server number xs) (asked t server number ys) (asked t server number (if b then zs else [])) (asked t server number (if d then zs else []))
      (asked_more t server number xs (if b then zs else [])) (asked_more t server number ys (if d then zs else [])) (if_none b) less
    where
      if_none : (b : Bool) → asked t server number (if b then zs else []) ≡ 0
      if_none true = none
      if_none false = refl

      sums : (a b c d e h : ℕ) → a ≡ c + e → b ≡ d + h → e ≡ 0 → c ≤ d → a ≤ b
      sums a b c d e h p q r m = omega (arith, p, q, r, m)

module _ (t : Tid) (world : World) (n m new free : ℕ) (known : 1 ≤ world.channels.peer n m) (later : world.channels.peer n m < new) (low : new ≤ world.channels.inc m)
    (silent : (i : ℕ) (server : ServerNo) (number : ℕ) → i < new → asked t server number (map message_of (pending world.channels m n i (world.channels.inc n))) ≡ 0) where
  abbrev c : Channels Parcel
  c = world.channels

  abbrev d : Channels Parcel
  d = taken_by world n (Noticed m new)

  abbrev first : Work
  first = first_work (world.hosts n).node free

  abbrev old : Field
  old = field_amid (field_of world) (c.peer n) n first

  abbrev then_field : Field
  then_field = field_amid (field_of (taken world n (Noticed m new))) (d.peer n) n first

  unasked : (q : ℕ) (server : ServerNo) (number : ℕ) → asked t server number (sent_to q first.out.messages) ≡ 0
  unasked q server number = (begin_leaves t (work_on (world.hosts n).node free)).asks q server number

  -- what is known of others is as it was
  known_here : (a b : ℕ) → a ≡ n → b ≡ m → d.peer a b ≡ new
  known_here a b p q = rw (p, q) (picked (n == n) (m == m) (eqb-self n) (eqb-self m))
    where
      picked : (x y : Bool) → x ≡ true → y ≡ true → (if x then (if y then new else c.peer n m) else c.peer n m) ≡ new
      picked x y xe ye = rw (xe, ye) refl

  known_there : (a b : ℕ) → ((a == n) && (b == m)) ≡ false → d.peer a b ≡ c.peer a b
  known_there a b far = by (a == n) (b == m) far
    where
      by : (x y : Bool) → (x && y) ≡ false → (if x then (if y then new else c.peer a b) else c.peer a b) ≡ c.peer a b
      by true true far = absurd (cc far)
      by true false far = refl
      by false y far = refl

  sent_on : (p q : ℕ) (server : ServerNo) (number : ℕ) → asked t server number ((field_of world).sent p q) ≤ asked t server number ((field_of (taken world n (Noticed m new))).sent p q)
  sent_on p q server number = by ((q == n) && (p == m)) refl
    where
      least : ℕ → ℕ → ℕ → Type 0
      least k l inc = ask t server number (pending_from (λ i. pending c p q i (c.inc q)) k ((inc + 1) - k)) ≤ ask t server number (pending_from (λ i. pending c p q i (c.inc q)) l ((inc + 1) - l))

      apart : (a b top : ℕ) → a < b → b ≤ top → (b ≡ (b - a) + a) × ((top + 1) - a ≡ (b - a) + ((top + 1) - b))
      apart a b top p q = (omega (arith, p, q), omega (arith, p, q))

      passed : asked t server number (map message_of (pending_from (λ i. pending c m n i (c.inc n)) (c.peer n m) ((c.inc m + 1) - c.peer n m))) ≤ asked t server number (map message_of (pending_from (λ i. pending c m n i (c.inc n)) new ((c.inc m + 1) - new)))
      passed = let e : (new ≡ (new - c.peer n m) + c.peer n m) × ((c.inc m + 1) - c.peer n m ≡ (new - c.peer n m) + ((c.inc m + 1) - new)) = apart (c.peer n m) new (c.inc m) later low in
          skipped t server number (λ i. pending c m n i (c.inc n)) new (λ i under. silent i server number under) (new - c.peer n m) (c.peer n m) ((c.inc m + 1) - new) new ((c.inc m + 1) - c.peer n m) e.0 e.1 (le_refl new)

      by : (b : Bool) → ((q == n) && (p == m)) ≡ b → asked t server number ((field_of world).sent p q) ≤ asked t server number ((field_of (taken world n (Noticed m new))).sent p q)
      by true near = let both : ((q == n) ≡ true) × ((p == m) ≡ true) = and_parts (q == n) (p == m) near in
          subst (λ (k : ℕ). least (c.peer q p) k (c.inc p)) (sym (known_here q p (eqb-true q n both.0) (eqb-true p m both.1)))
          (subst (λ (a : ℕ). ask t server number (pending_from (λ i. pending c p a i (c.inc a)) (c.peer a p) ((c.inc p + 1) - c.peer a p)) ≤ ask t server number (pending_from (λ i. pending c p a i (c.inc a)) new ((c.inc p + 1) - new))) (sym (eqb-true q n both.0))
          (subst (λ (b : ℕ). ask t server number (pending_from (λ i. pending c b n i (c.inc n)) (c.peer n b) ((c.inc b + 1) - c.peer n b)) ≤ ask t server number (pending_from (λ i. pending c b n i (c.inc n)) new ((c.inc b + 1) - new))) (sym (eqb-true p m both.1)) passed))
      by false far = subst (λ (k : ℕ). least (c.peer q p) k (c.inc p)) (sym (known_there q p far)) (le_refl (asked t server number ((field_of world).sent p q)))

  kept_on : (p q : ℕ) (server : ServerNo) (number : ℕ) → asked t server number ((field_of world).kept p q) ≤ asked t server number ((field_of (taken world n (Noticed m new))).kept p q)
  kept_on p q server number = by ((p == n) && (q == m)) refl
    where
      kept_as : ℕ → ℕ
      kept_as k = asked t server number (map message_of (if c.up p && (k == 0) then c.waits p q else []))

      nothing : (b : Bool) → b ≡ false → (u : Bool) → asked t server number (map message_of (if u && b then c.waits p q else [])) ≡ 0
      nothing b is true = rw is refl
      nothing b is false = refl

      known_now : (k : ℕ) → 1 ≤ k → (k == 0) ≡ false
      known_now k some = grind (arith, nat_tests, some)

      by : (b : Bool) → ((p == n) && (q == m)) ≡ b → kept_as (c.peer p q) ≤ kept_as (d.peer p q)
      by true near = let both : ((p == n) ≡ true) × ((q == m) ≡ true) = and_parts (p == n) (q == m) near in
          zero_least (kept_as (c.peer p q)) (kept_as (d.peer p q)) (nothing (c.peer p q == 0) (known_now (c.peer p q)
          (subst (λ (a : ℕ). 1 ≤ c.peer a q) (sym (eqb-true p n both.0)) (subst (λ (b : ℕ). 1 ≤ c.peer n b) (sym (eqb-true q m both.1)) known))) (c.up p))
      by false far = subst (λ (k : ℕ). kept_as (c.peer p q) ≤ kept_as k) (sym (known_there p q far)) (le_refl (kept_as (c.peer p q)))

  notice_grows : Grows t old then_field
  notice_grows = record {
    nodes = record { size = refl; up = λ k. refl; inc = λ k. refl };
    room = λ at. record { runs = λ up server. all at server; stopped = λ off server. kept at server };
  }
    where
      kept : (at : RequestNo) (server : ServerNo) → back t old at server ≤ back t then_field at server
      kept at server = added t server at.number ((field_of world).kept at.link.from.0 at.link.to.0) ((field_of (taken world n (Noticed m new))).kept at.link.from.0 at.link.to.0) ((at.link.from.0 == n) && (c.peer n at.link.to.0 == 0)) ((at.link.from.0 == n) && (d.peer n at.link.to.0 == 0))
          (sent_to at.link.to.0 first.out.messages) (unasked at.link.to.0 server at.number) (kept_on at.link.from.0 at.link.to.0 server at.number)

      sent : (at : RequestNo) (server : ServerNo) → asked t server at.number (old.sent at.link.from.0 at.link.to.0) ≤ asked t server at.number (then_field.sent at.link.from.0 at.link.to.0)
      sent at server = added t server at.number ((field_of world).sent at.link.from.0 at.link.to.0) ((field_of (taken world n (Noticed m new))).sent at.link.from.0 at.link.to.0)
          ((at.link.from.0 == n) && ((c.peer n at.link.to.0 == c.inc at.link.to.0) && not (c.peer n at.link.to.0 == 0))) ((at.link.from.0 == n) && ((d.peer n at.link.to.0 == c.inc at.link.to.0) && not (d.peer n at.link.to.0 == 0)))
          (sent_to at.link.to.0 first.out.messages) (unasked at.link.to.0 server at.number) (sent_on at.link.from.0 at.link.to.0 server at.number)

      all : (at : RequestNo) (server : ServerNo) → there t old at server ≤ there t then_field at server
      all at server = three_more (waiting t old at server) (asked t server at.number (old.sent at.link.from.0 at.link.to.0)) (back t old at server) (waiting t then_field at server) (asked t server at.number (then_field.sent at.link.from.0 at.link.to.0)) (back t then_field at server)
          (le_refl (waiting t old at server)) (sent at server) (kept at server)

pub notice_comes : NoticeComes
notice_comes t world n m new stamp free before known later low silent placed tx found =
    open_grown t (old t world n m new free known later low silent) (then_field t world n m new free known later low silent) (notice_grows t world n m new free known later low silent) tx (placed tx found)
