-- What channels hold is so after each thing that happens to them, where what is new in them is so.
use Rattle.qs_world_lawful.proofs.Words.{◌≡◌, ℕ, ◌==◌, ◌≤◌, Bool, true, false, List, [], ◌∷◌, ◌++◌, refl, sym, subst, arith, if◌then◌else◌, Channels, with_at, with_at2, BookValue, Sending, post_all, post_next, Parcel, Every, HoldsChannels, IsParcel, eqb-true}
use Rattle.qs_session_channels.specs.Channels as channel
use Rattle.qs_session_channels.specs.Channels.{with_at4}
use Rattle.qs_world_lawful.specs.Parcels.{FitsChannels}

pub every_more : {A : Type 0} (P : A → Type 0) (xs ys : List A) → Every P xs → Every P ys → Every P (xs ++ ys)
every_more P [] ys a b = b
every_more P (x ∷ xs) ys a b = (a.0, every_more P xs ys a.1 b)

-- of what is changed at one number, and at one pair of them
pub at_one : {A : Type 0} (P : ℕ → A → Type 0) (f : ℕ → A) (n : ℕ) (x : A) → P n x → ((k : ℕ) → P k (f k)) → (k : ℕ) → P k (with_at f n x k)
at_one P f n x new old k = by (k == n) refl
  where
    by : (b : Bool) → (k == n) ≡ b → P k (if b then x else f k)
    by true is = subst (λ (i : ℕ). P i x) (sym (eqb-true k n is)) new
    by false is = old k

pub at_two : {A : Type 0} (P : ℕ → ℕ → A → Type 0) (f : ℕ → ℕ → A) (n m : ℕ) (x : A) → P n m x → ((p q : ℕ) → P p q (f p q)) → (p q : ℕ) → P p q (with_at2 f n m x p q)
at_two P f n m x new old p q = by (p == n) refl (q == m) refl
  where
    by : (a : Bool) → (p == n) ≡ a → (b : Bool) → (q == m) ≡ b → P p q (if a then (if b then x else f p q) else f p q)
    by true is true too = subst (λ (i : ℕ). P i q x) (sym (eqb-true p n is)) (subst (λ (j : ℕ). P n j x) (sym (eqb-true q m too)) new)
    by true is false too = old p q
    by false is b too = old p q

module _ (book : BookValue) (size : ℕ) where
  posted_on : (c : Channels Parcel) (n m a b : ℕ) (more : List Parcel) → Every (IsParcel book size n m) more → HoldsChannels book size c
      → (p q i j : ℕ) → Every (IsParcel book size p q) (with_at4 c.posted n m a b (c.posted n m a b ++ more) p q i j)
  posted_on c n m a b more new h p q = at_two (λ (p q : ℕ) (g : ℕ → ℕ → List Parcel). (i j : ℕ) → Every (IsParcel book size p q) (g i j)) c.posted n m (with_at2 (c.posted n m) a b (c.posted n m a b ++ more))
      (at_two (λ (i j : ℕ) (ps : List Parcel). Every (IsParcel book size n m) ps) (c.posted n m) a b (c.posted n m a b ++ more) (every_more (IsParcel book size n m) (c.posted n m a b) more (h.posted n m a b) new) (h.posted n m)) h.posted p q

  pub channels_moved : (move : channel.Move Parcel) (c : Channels Parcel) → FitsChannels book size move c → HoldsChannels book size c → HoldsChannels book size (channel.moved move c)
  channels_moved (channel.Wait n m x) c fits h = record {
    posted = h.posted;
    waits = at_two (λ (p q : ℕ) (ps : List Parcel). Every (IsParcel book size p q) ps) c.waits n m (c.waits n m ++ x ∷ []) (every_more (IsParcel book size n m) (c.waits n m) (x ∷ []) (h.waits n m) (fits, tt)) h.waits;
    known = h.known;
  }
  channels_moved (channel.Post n m x) c fits h = record { posted = posted_on c n m (c.inc n) (c.peer n m) (x ∷ []) (fits, tt) h; waits = h.waits; known = h.known }
  channels_moved (channel.Meet n m j) c fits h = record {
    posted = posted_on c n m (c.inc n) j (c.waits n m) (h.waits n m) h;
    waits = at_two (λ (p q : ℕ) (ps : List Parcel). Every (IsParcel book size p q) ps) c.waits n m [] tt h.waits;
    known = at_two (λ (p q i : ℕ). i ≤ c.inc q) c.peer n m j fits h.known;
  }
  channels_moved (channel.Notice n m j) c fits h = record { posted = h.posted; waits = h.waits; known = at_two (λ (p q i : ℕ). i ≤ c.inc q) c.peer n m j fits h.known }
  channels_moved (channel.Hand n m x) c fits h = record { posted = h.posted; waits = h.waits; known = h.known }
  channels_moved (channel.Crash n) c fits h = record { posted = h.posted; waits = h.waits; known = h.known }
  channels_moved (channel.Restart n i) c fits h = record {
    posted = h.posted;
    waits = at_one (λ (p : ℕ) (g : ℕ → List Parcel). (q : ℕ) → Every (IsParcel book size p q) (g q)) c.waits n (λ m. []) (λ q. tt) h.waits;
    known = λ p q. at_one (λ (r l : ℕ). with_at c.peer n (λ m. 0) p r ≤ l) c.inc n i (risen p n fits) (λ r. below p r) q;
  }
    where
      below : (p r : ℕ) → with_at c.peer n (λ m. 0) p r ≤ c.inc r
      below p r = at_one (λ (k : ℕ) (g : ℕ → ℕ). g r ≤ c.inc r) c.peer n (λ m. 0) (grind (arith)) (λ k. h.known k r) p

      risen : (p r : ℕ) → c.inc r ≤ i → with_at c.peer n (λ m. 0) p r ≤ i
      risen p r rises = let low = below p r in grind (arith, low, rises)

  -- what a step sends is posted, or waits
  pub channels_posted : (n stamp : ℕ) (sendings : List Sending) (c : Channels Parcel) → Every (λ (sending : Sending). IsParcel book size n sending.to.0 (record { stamp = stamp; message = sending.message })) sendings → HoldsChannels book size c
      → HoldsChannels book size (post_all n stamp sendings c)
  channels_posted n stamp [] c new h = h
  channels_posted n stamp (sending ∷ sendings) c new h = channels_posted n stamp sendings (post_next n stamp c sending) new.1 (one (c.peer n sending.to.0 == 0))
    where
      one : (b : Bool) → HoldsChannels book size (channel.moved (if b then channel.Wait n sending.to.0 (record { stamp = stamp; message = sending.message }) else channel.Post n sending.to.0 (record { stamp = stamp; message = sending.message })) c)
      one true = channels_moved (channel.Wait n sending.to.0 (record { stamp = stamp; message = sending.message })) c new.0 h
      one false = channels_moved (channel.Post n sending.to.0 (record { stamp = stamp; message = sending.message })) c new.0 h

-- and what was so stays so
pub channels_later : (old new : BookValue) (size : ℕ) (c : Channels Parcel) → ((n m : ℕ) (parcel : Parcel) → IsParcel old size n m parcel → IsParcel new size n m parcel) → HoldsChannels old size c → HoldsChannels new size c
channels_later old new size c each h = record {
  posted = λ n m i j. every_on n m (c.posted n m i j) (h.posted n m i j);
  waits = λ n m. every_on n m (c.waits n m) (h.waits n m);
  known = h.known;
}
  where
    every_on : (n m : ℕ) (ps : List Parcel) → Every (IsParcel old size n m) ps → Every (IsParcel new size n m) ps
    every_on n m [] every = tt
    every_on n m (p ∷ ps) every = (each n m p every.0, every_on n m ps every.1)
