-- What a step sends stands behind all that is on its way, or goes to an incarnation that is over.
use Rattle.qs_world_runs.proofs.Words.{◌≡◌, ◌⊎◌, inl, inr, ℕ, ◌+◌, ◌-◌, ◌==◌, ◌&&◌, ◌≤◌, not, Bool, true, false, List, [], ◌++◌, drop, length, suc, refl, sym, ap, subst, ◌∙◌, arith, if◌then◌else◌, append_assoc, append-nil, nat_tests, Channels, Sending, post_all, Parcel, inc_all, parcels, peer_all, on_its_way, pending_from, eqb-self}
use Rattle.qs_world_refine.proofs.Moving.{drop_front}
use Rattle.qs_world_refine.proofs.Posted.{handed_all, posted_all, waits_all}
use Rattle.qs_world_lawful.proofs.WithinParts.{pending_last, pending_same}
use Rattle.qs_base_lemmas.proofs.Tests.{lt_apart}

-- what is on the way, of these
abbrev way_as : ℕ → (ℕ → ℕ) → List Parcel → (ℕ → ℕ → List Parcel) → (ℕ → ℕ → List Parcel) → ℕ → ℕ → List Parcel
way_as peer inc waits posted handed n b = pending_from (λ i. drop (length (handed i (inc b))) (posted i (inc b))) peer ((inc n + 1) - peer) ++ waits

module _ (n stamp b : ℕ) (sendings : List Sending) (d : Channels Parcel) (ordered : (i : ℕ) → (rest : List Parcel) × (d.posted n b i (d.inc b) ≡ d.handed n b i (d.inc b) ++ rest)) (known : d.peer b n ≤ d.inc n) (unmet : 1 ≤ d.peer n b → d.waits n b ≡ []) where
  abbrev sent : Channels Parcel
  sent = post_all n stamp sendings d

  abbrev more : List Parcel
  more = parcels n stamp b sendings

  f : ℕ → List Parcel
  f i = drop (length (d.handed n b i (d.inc b))) (d.posted n b i (d.inc b))

  g : ℕ → List Parcel
  g i = drop (length (d.handed n b i (d.inc b))) (sent.posted n b i (d.inc b))

  -- but for what is posted and waits, all is as before
  sent_is : on_its_way sent n b ≡ pending_from g (d.peer b n) ((d.inc n + 1) - d.peer b n) ++ sent.waits n b
  unfolding g
  sent_is = ap (λ (x : ℕ → ℕ → ℕ). way_as (x b n) sent.inc (sent.waits n b) (sent.posted n b) (sent.handed n b) n b) (peer_all n stamp sendings d)
      ∙ (ap (λ (x : ℕ → ℕ). way_as (d.peer b n) x (sent.waits n b) (sent.posted n b) (sent.handed n b) n b) (inc_all n stamp sendings d)
      ∙ ap (λ (x : ℕ → ℕ → ℕ → ℕ → List Parcel). way_as (d.peer b n) d.inc (sent.waits n b) (sent.posted n b) (x n b) n b) (handed_all n stamp sendings d))

  posted_is : (i : ℕ) → sent.posted n b i (d.inc b) ≡ (if (i == d.inc n) && ((d.inc b == d.peer n b) && not (d.inc b == 0)) then d.posted n b i (d.inc b) ++ more else d.posted n b i (d.inc b))
  posted_is i = posted_all n stamp sendings d n b i (d.inc b) ∙ own (n == n) (eqb-self n)
    where
      own : (c : Bool) → c ≡ true → (if c && ((i == d.inc n) && ((d.inc b == d.peer n b) && not (d.inc b == 0))) then d.posted n b i (d.inc b) ++ more else d.posted n b i (d.inc b))
          ≡ (if (i == d.inc n) && ((d.inc b == d.peer n b) && not (d.inc b == 0)) then d.posted n b i (d.inc b) ++ more else d.posted n b i (d.inc b))
      own c is = rw is refl

  waits_is : sent.waits n b ≡ (if d.peer n b == 0 then d.waits n b ++ more else d.waits n b)
  waits_is = waits_all n stamp sendings d n b ∙ own (n == n) (eqb-self n)
    where
      own : (c : Bool) → c ≡ true → (if c && (d.peer n b == 0) then d.waits n b ++ more else d.waits n b) ≡ (if d.peer n b == 0 then d.waits n b ++ more else d.waits n b)
      own c is = rw is refl

  -- where none is posted to the present incarnation
  same_posted : ((d.inc b == d.peer n b) && not (d.inc b == 0)) ≡ false → (i : ℕ) → g i ≡ f i
  unfolding f g
  same_posted off i = ap (drop (length (d.handed n b i (d.inc b)))) (posted_is i ∙ by (i == d.inc n) ((d.inc b == d.peer n b) && not (d.inc b == 0)) off)
    where
      by : (c e : Bool) → e ≡ false → (if c && e then d.posted n b i (d.inc b) ++ more else d.posted n b i (d.inc b)) ≡ d.posted n b i (d.inc b)
      by true e is = rw is refl
      by false e is = refl

  old_is : on_its_way d n b ≡ pending_from f (d.peer b n) ((d.inc n + 1) - d.peer b n) ++ d.waits n b
  unfolding f
  old_is = refl

  -- the present incarnation is the one that it knows
  at_last : ((d.inc b == d.peer n b) && not (d.inc b == 0)) ≡ true → pending_from g (d.peer b n) ((d.inc n + 1) - d.peer b n) ≡ pending_from f (d.peer b n) ((d.inc n + 1) - d.peer b n) ++ more
  unfolding f g
  at_last on = subst (λ (l : ℕ). pending_from g (d.peer b n) l ≡ pending_from f (d.peer b n) l ++ more) (sym (count (d.peer b n) (d.inc n) known))
      (pending_last f g more (d.inc n) own (λ i less. less_same i (lt_apart i (d.inc n) less)) (d.peer b n) (d.inc n - d.peer b n) (whole (d.peer b n) (d.inc n) known))
    where
      count : (p l : ℕ) → p ≤ l → (l + 1) - p ≡ suc (l - p)
      count p l e = grind (arith, e)

      whole : (p l : ℕ) → p ≤ l → p + (l - p) ≡ l
      whole p l e = grind (arith, e)

      with : (i : ℕ) (c e : Bool) → c ≡ true → e ≡ true → (if c && e then d.posted n b i (d.inc b) ++ more else d.posted n b i (d.inc b)) ≡ d.posted n b i (d.inc b) ++ more
      with i c e p q = rw (p, q) refl

      without : (i : ℕ) (c e : Bool) → c ≡ false → (if c && e then d.posted n b i (d.inc b) ++ more else d.posted n b i (d.inc b)) ≡ d.posted n b i (d.inc b)
      without i c e p = rw p refl

      less_same : (i : ℕ) → (i == d.inc n) ≡ false → g i ≡ f i
      less_same i far = ap (drop (length (d.handed n b i (d.inc b)))) (posted_is i ∙ without i (i == d.inc n) ((d.inc b == d.peer n b) && not (d.inc b == 0)) far)

      -- what is put comes behind what is on its way
      behind : (front whole rest : List Parcel) → whole ≡ front ++ rest → drop (length front) (whole ++ more) ≡ drop (length front) whole ++ more
      behind front whole rest is = ap (λ (l : List Parcel). drop (length front) (l ++ more)) is ∙ (ap (drop (length front)) (append_assoc front rest more) ∙ (drop_front front (rest ++ more)
          ∙ sym (ap (λ (l : List Parcel). drop (length front) l ++ more) is ∙ ap (λ (l : List Parcel). l ++ more) (drop_front front rest))))

      own : g (d.inc n) ≡ f (d.inc n) ++ more
      own = ap (drop (length (d.handed n b (d.inc n) (d.inc b)))) (posted_is (d.inc n) ∙ with (d.inc n) (d.inc n == d.inc n) ((d.inc b == d.peer n b) && not (d.inc b == 0)) (eqb-self (d.inc n)) on)
          ∙ behind (d.handed n b (d.inc n) (d.inc b)) (d.posted n b (d.inc n) (d.inc b)) (ordered (d.inc n)).0 (ordered (d.inc n)).1

  pub posted_way : (on_its_way sent n b ≡ on_its_way d n b ++ more) ⊎ (on_its_way sent n b ≡ on_its_way d n b)
  posted_way = by (d.peer n b == 0) refl ((d.inc b == d.peer n b) && not (d.inc b == 0)) refl
    where
      some : (k : ℕ) → (k == 0) ≡ false → 1 ≤ k
      some k e = grind (arith, nat_tests, e)

      none : (k l : ℕ) → (l == 0) ≡ true → ((k == l) && not (k == 0)) ≡ false
      none k l e = grind (arith, nat_tests, e)

      all_same : ((d.inc b == d.peer n b) && not (d.inc b == 0)) ≡ false → pending_from g (d.peer b n) ((d.inc n + 1) - d.peer b n) ≡ pending_from f (d.peer b n) ((d.inc n + 1) - d.peer b n)
      all_same off = pending_same g f (same_posted off) (d.peer b n) ((d.inc n + 1) - d.peer b n)

      back : (c : Bool) → (d.peer n b == 0) ≡ c → sent.waits n b ≡ (if c then d.waits n b ++ more else d.waits n b)
      back c is = waits_is ∙ ap (λ (x : Bool). if x then d.waits n b ++ more else d.waits n b) is

      by : (c : Bool) → (d.peer n b == 0) ≡ c → (e : Bool) → ((d.inc b == d.peer n b) && not (d.inc b == 0)) ≡ e → (on_its_way sent n b ≡ on_its_way d n b ++ more) ⊎ (on_its_way sent n b ≡ on_its_way d n b)
      by true unknown e on = inl (sent_is ∙ (ap (λ (xs : List Parcel). xs ++ sent.waits n b) (all_same (none (d.inc b) (d.peer n b) unknown)) ∙ (ap (λ (xs : List Parcel). pending_from f (d.peer b n) ((d.inc n + 1) - d.peer b n) ++ xs) (back true unknown)
          ∙ (sym (append_assoc (pending_from f (d.peer b n) ((d.inc n + 1) - d.peer b n)) (d.waits n b) more) ∙ ap (λ (xs : List Parcel). xs ++ more) (sym old_is)))))
      by false met true on = inl (sent_is ∙ (ap (λ (xs : List Parcel). xs ++ sent.waits n b) (at_last on) ∙ (ap (λ (xs : List Parcel). (pending_from f (d.peer b n) ((d.inc n + 1) - d.peer b n) ++ more) ++ xs) (back false met ∙ unmet (some (d.peer n b) met))
          ∙ (append-nil (pending_from f (d.peer b n) ((d.inc n + 1) - d.peer b n) ++ more)
          ∙ (ap (λ (xs : List Parcel). xs ++ more) (sym (append-nil (pending_from f (d.peer b n) ((d.inc n + 1) - d.peer b n))) ∙ ap (λ (xs : List Parcel). pending_from f (d.peer b n) ((d.inc n + 1) - d.peer b n) ++ xs) (sym (unmet (some (d.peer n b) met))))
          ∙ ap (λ (xs : List Parcel). xs ++ more) (sym old_is))))))
      by false met false off = inr (sent_is ∙ (ap (λ (xs : List Parcel). xs ++ sent.waits n b) (all_same off) ∙ (ap (λ (xs : List Parcel). pending_from f (d.peer b n) ((d.inc n + 1) - d.peer b n) ++ xs) (back false met) ∙ sym old_is)))
