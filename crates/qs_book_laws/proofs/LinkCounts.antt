-- What is open on a link after some entries stays so through further ones unless its node counts it: step by step of a node.
use Rattle.qs_book_laws.proofs.Words.{◌≡◌, ℕ, ◌+◌, ◌<◌, ◌≤◌, ◌==◌, ◌&&◌, ◌||◌, Bool, true, false, not, List, [], ◌∷◌, Some, None, refl, sym, ap, subst, ◌∙◌, if◌then◌else◌, arith, nat_tests, nat_lt, nat_le, same_tid, NodeNo, Tid, Act, Counted, Entry, is_by_files, sent_in, sent_more, with_counted, Link, Request, Sent, is_count_of, is_counted, restarts, and_false}
use Rattle.qs_book_laws.specs.Gone.{counts}
use Rattle.qs_base.proofs.TidOrder.{or-true}
use Rattle.qs_base_lemmas.proofs.Tests.{le_next}

module _ (tid : Tid) (node : NodeNo) where
  -- it is open to the node, and stays so through these entries; `inc` has the incarnations before them
  abbrev pub stays : (NodeNo → ℕ) → List Entry → Link × Sent → Bool
  stays inc since e =
      (e.0.to.0 == node.0)
      && (e.1.lost || (e.1.by_files || (nat_lt e.1.counted e.1.count && not ((e.1.inc == inc e.0.from) && is_counted tid node e.0.from e.1.count since))))

  -- what an entry does to the incarnations
  pub record Paced (entry : Entry) (inc new : NodeNo → ℕ) : Type 0 where
    pub still : (n : NodeNo) → restarts n entry ≡ false → new n ≡ inc n
    pub later : (n : NodeNo) → restarts n entry ≡ true → inc n < new n

  -- ---- a lesser number is counted with a greater

  is_count_less : (m n : ℕ) → m ≤ n → (entry : Entry) → is_count_of tid node n entry.act ≡ true → is_count_of tid node m entry.act ≡ true
  is_count_less m n less entry h = of entry.act h
    where
      lower : (u : ℕ) → nat_le n u ≡ true → nat_le m u ≡ true
      lower u k = grind (arith, nat_tests)

      both : (a : Bool) (u : ℕ) → (a && nat_le n u) ≡ true → (a && nat_le m u) ≡ true
      both true u k = lower u k
      both false u k = k

      of : (act : Act) → is_count_of tid node n act ≡ true → is_count_of tid node m act ≡ true
      of (Counted t peer so_far) k = both (same_tid t tid && (peer.0 == node.0)) so_far k
      of act k = absurd (cc k)

  pub counted_less : (from : NodeNo) (m n : ℕ) → m ≤ n → (since : List Entry) → is_counted tid node from n since ≡ true → is_counted tid node from m since ≡ true
  counted_less from m n less [] h = h
  counted_less from m n less (entry ∷ since) h =
      by (restarts from entry) (entry.node.0 == from.0) (is_count_of tid node n entry.act) (is_count_of tid node m entry.act) (is_counted tid node from n since) (is_counted tid node from m since)
      (is_count_less m n less entry) (counted_less from m n less since) h
    where
      by : (r a b c d e : Bool) → (b ≡ true → c ≡ true) → (d ≡ true → e ≡ true) → (not r && ((a && b) || d)) ≡ true → (not r && ((a && c) || e)) ≡ true
      by true a b c d e f g k = k
      by false true true c d e f g k = rw (f refl) refl
      by false true false true d e f g k = refl
      by false true false false d e f g k = g k
      by false false b c d e f g k = g k

  -- ---- an entry that does not count

  module _ (entry : Entry) (since : List Entry) (inc new : NodeNo → ℕ) (p : Paced entry inc new) where
    abbrev before : Link × Sent → Bool
    before = stays inc (entry ∷ since)

    abbrev after : Link × Sent → Bool
    after = stays new since

    differs : (a b c : ℕ) → a ≤ b → b < c → (a == c) ≡ false
    differs a b c h k = grind (arith, nat_tests)

    counted_on : (from : NodeNo) (n : ℕ) → restarts from entry ≡ false → counts tid node from n entry ≡ false → is_counted tid node from n (entry ∷ since) ≡ is_counted tid node from n since
    counted_on from n far none = ap (λ (r : Bool). not r && (counts tid node from n entry || is_counted tid node from n since)) far ∙ ap (λ (c : Bool). c || is_counted tid node from n since) none

    live : (from : NodeNo) (s : Sent) → s.inc ≤ inc from → counts tid node from s.count entry ≡ false → (r : Bool) → restarts from entry ≡ r
        → ((s.inc == new from) && is_counted tid node from s.count since) ≡ ((s.inc == inc from) && is_counted tid node from s.count (entry ∷ since))
    live from s below none false far =
        ap (λ (n : ℕ). (s.inc == n) && is_counted tid node from s.count since) (p.still from far) ∙ ap (λ (b : Bool). (s.inc == inc from) && b) (sym (counted_on from s.count far none))
    live from s below none true near =
        ap (λ (b : Bool). b && is_counted tid node from s.count since) (differs s.inc (inc from) (new from) below (p.later from near))
        ∙ sym (ap (λ (r : Bool). (s.inc == inc from) && (not r && (counts tid node from s.count entry || is_counted tid node from s.count since))) near ∙ and_false (s.inc == inc from))

    pub plain : (k : Link) (s : Sent) → s.inc ≤ inc k.from → counts tid node k.from s.count entry ≡ false → after (k, s) ≡ before (k, s)
    plain k s below none =
        ap (λ (b : Bool). (k.to.0 == node.0) && (s.lost || (s.by_files || (nat_lt s.counted s.count && not b)))) (live k.from s below none (restarts k.from entry) refl)

    -- what goes elsewhere
    pub elsewhere : (k : Link) (s t : Sent) → (k.to.0 == node.0) ≡ false → after (k, t) ≡ before (k, s)
    elsewhere k s t far =
        ap (λ (b : Bool). b && (t.lost || (t.by_files || (nat_lt t.counted t.count && not ((t.inc == new k.from) && is_counted tid node k.from t.count since))))) far
        ∙ sym (ap (λ (b : Bool). b && (s.lost || (s.by_files || (nat_lt s.counted s.count && not ((s.inc == inc k.from) && is_counted tid node k.from s.count (entry ∷ since)))))) far)

    -- ---- a count, by the node of the link

    pub count_own : (k : Link) (v : Sent) (upto : ℕ) → restarts k.from entry ≡ false → ((n : ℕ) → counts tid node k.from n entry ≡ nat_le n upto) → upto ≤ sent_in (inc k.from) (Some v)
        → after (k, with_counted (inc k.from) upto v) ≡ before (k, v)
    count_own k v upto far is most = ap (λ (b : Bool). (k.to.0 == node.0) && b) (by (v.inc == inc k.from) refl)
      where
        i : ℕ
        i = inc k.from

        C : Bool
        C = is_counted tid node k.from v.count since

        inner : Sent → Bool
        inner s = s.lost || (s.by_files || (nat_lt s.counted s.count && not ((s.inc == new k.from) && is_counted tid node k.from s.count since)))

        old : is_counted tid node k.from v.count (entry ∷ since) ≡ (nat_le v.count upto || C)
        old = ap (λ (r : Bool). not r && (counts tid node k.from v.count entry || C)) far ∙ ap (λ (c : Bool). c || C) (is v.count)

        outer : Bool → Bool
        outer b = v.lost || (v.by_files || (nat_lt v.counted v.count && not b))

        same : new k.from ≡ i
        same = p.still k.from far

        raised : nat_lt v.counted upto ≡ true → upto ≤ v.count → (c : Bool) → (nat_lt upto v.count && not c) ≡ (nat_lt v.counted v.count && not (nat_le v.count upto || c))
        raised h m c = grind (arith, nat_tests)

        kept : nat_lt v.counted upto ≡ false → (c : Bool) → (nat_lt v.counted v.count && not c) ≡ (nat_lt v.counted v.count && not (nat_le v.count upto || c))
        kept h c = grind (arith, nat_tests)

        by : (b : Bool) → (v.inc == i) ≡ b → inner (with_counted i upto v) ≡ outer ((v.inc == i) && is_counted tid node k.from v.count (entry ∷ since))
        by false is_old =
            ap (λ (x : Bool). inner (if x && nat_lt v.counted upto then record v { counted = upto } else v)) is_old
            ∙ (ap (λ (n : ℕ). outer ((v.inc == n) && C)) same
            ∙ (ap (λ (x : Bool). outer (x && C)) is_old ∙ sym (ap (λ (x : Bool). outer (x && is_counted tid node k.from v.count (entry ∷ since))) is_old)))
        by true is_now =
            ap (λ (x : Bool). inner (if x && nat_lt v.counted upto then record v { counted = upto } else v)) is_now
            ∙ (on (nat_lt v.counted upto) refl
            ∙ sym (ap (λ (x : Bool). outer (x && is_counted tid node k.from v.count (entry ∷ since))) is_now ∙ ap outer old))
          where
            at_most : upto ≤ v.count
            at_most = subst (λ (n : ℕ). upto ≤ n) (ap (λ (x : Bool). if x then v.count else 0) is_now) most

            live_now : (v.inc == new k.from) ≡ true
            live_now = ap (λ (n : ℕ). v.inc == n) same ∙ is_now

            on : (b : Bool) → nat_lt v.counted upto ≡ b → inner (if b then record v { counted = upto } else v) ≡ outer (nat_le v.count upto || C)
            on true h =
                ap (λ (x : Bool). v.lost || (v.by_files || (nat_lt upto v.count && not (x && C)))) live_now
                ∙ ap (λ (x : Bool). v.lost || (v.by_files || x)) (raised h at_most C)
            on false h =
                ap (λ (x : Bool). v.lost || (v.by_files || (nat_lt v.counted v.count && not (x && C)))) live_now
                ∙ ap (λ (x : Bool). v.lost || (v.by_files || x)) (kept h C)

    -- ---- an issue on the link

    module _ (k : Link) (request : Request) (far : restarts k.from entry ≡ false) (none : (n : ℕ) → counts tid node k.from n entry ≡ false) (at : request.inc ≡ inc k.from) where
      abbrev i : ℕ
      i = inc k.from

      -- it is open from now on: of files, or not counted
      abbrev pub opens : ℕ → Bool
      opens n = (k.to.0 == node.0) && (is_by_files request || not (is_counted tid node k.from n since))

      zero_first : (n : ℕ) → nat_lt 0 1 ≡ true
      zero_first n = refl

      itself : (n : ℕ) → (n == n) ≡ true
      itself n = grind (arith, nat_tests)

      now : (request.inc == new k.from) ≡ true
      now = ap (λ (n : ℕ). request.inc == n) (p.still k.from far ∙ sym at) ∙ itself request.inc

      pub issue_first : after (k, sent_more request None) ≡ (false || opens 1)
      issue_first = ap (λ (x : Bool). (k.to.0 == node.0) && (is_by_files request || not (x && is_counted tid node k.from 1 since))) now

      pub issue_more : (s : Sent) → s.counted ≤ s.count → after (k, sent_more request (Some s)) ≡ (before (k, s) || opens (sent_in i (Some s) + 1))
      issue_more s below = by (s.inc == i) refl
        where
          T : Bool
          T = k.to.0 == node.0

          F : Bool
          F = is_by_files request

          C : ℕ → Bool
          C n = is_counted tid node k.from n since

          again : Sent
          again = record {
            inc = request.inc;
            count = 1;
            counted = 0;
            lost = s.lost || nat_lt s.counted s.count;
            by_files = s.by_files || F;
          }

          more : Sent
          more = record s { count = s.count + 1; by_files = s.by_files || F }

          old : is_counted tid node k.from s.count (entry ∷ since) ≡ C s.count
          old = counted_on k.from s.count far (none s.count)

          was : (b : Bool) → (s.inc == i) ≡ b → before (k, s) ≡ (T && (s.lost || (s.by_files || (nat_lt s.counted s.count && not (b && C s.count)))))
          was b e =
              ap (λ (x : Bool). T && (s.lost || (s.by_files || (nat_lt s.counted s.count && not (x && is_counted tid node k.from s.count (entry ∷ since)))))) e
              ∙ ap (λ (x : Bool). T && (s.lost || (s.by_files || (nat_lt s.counted s.count && not (b && x))))) old

          joined : (t l f g c a : Bool) → (c ≡ true → a ≡ true) → (t && (l || ((f || g) || a))) ≡ ((t && (l || (f || c))) || (t && (g || a)))
          joined false l f g c a h = refl
          joined true true f g c a h = refl
          joined true false true g c a h = refl
          joined true false false g true a h = rw (h refl) (or-true g)
          joined true false false g false a h = refl

          lost_more : (t l m f g a : Bool) → (t && ((l || m) || ((f || g) || a))) ≡ ((t && (l || (f || (m && true)))) || (t && (g || a)))
          lost_more false l m f g a = refl
          lost_more true true m f g a = refl
          lost_more true false true true g a = refl
          lost_more true false true false g a = refl
          lost_more true false false true g a = refl
          lost_more true false false false g a = refl

          above : nat_lt s.counted (s.count + 1) ≡ true
          above = over s.counted s.count below
            where
              over : (a b : ℕ) → a ≤ b → nat_lt a (b + 1) ≡ true
              over a b h = grind (arith, nat_tests)

          wider : (nat_lt s.counted s.count && not (C s.count)) ≡ true → not (C (s.count + 1)) ≡ true
          wider h = of (C s.count) (C (s.count + 1)) (counted_less k.from s.count (s.count + 1) (le_next s.count) since) (nat_lt s.counted s.count) h
            where
              of : (c d : Bool) → (d ≡ true → c ≡ true) → (b : Bool) → (b && not c) ≡ true → not d ≡ true
              of c false f b h = refl
              of true true f true h = absurd (cc h)
              of true true f false h = absurd (cc h)
              of false true f b h = absurd (cc (f refl))

          live_more : (s.inc == i) ≡ true → (s.inc == new k.from) ≡ true
          live_more e = ap (λ (n : ℕ). s.inc == n) (p.still k.from far) ∙ e

          by : (b : Bool) → (s.inc == i) ≡ b → after (k, sent_more request (Some s)) ≡ (before (k, s) || opens (sent_in i (Some s) + 1))
          by true e =
              ap (λ (x : Bool). after (k, if x then more else again)) (ap (λ (n : ℕ). s.inc == n) at ∙ e)
              ∙ (ap (λ (x : Bool). T && (s.lost || ((s.by_files || F) || (x && not ((s.inc == new k.from) && C (s.count + 1)))))) above
              ∙ (ap (λ (x : Bool). T && (s.lost || ((s.by_files || F) || not (x && C (s.count + 1))))) (live_more e)
              ∙ (joined T s.lost s.by_files F (nat_lt s.counted s.count && not (C s.count)) (not (C (s.count + 1))) wider
              ∙ (ap (λ (x : Bool). x || (T && (F || not (C (s.count + 1))))) (sym (was true e))
              ∙ ap (λ (x : Bool). before (k, s) || (T && (F || not (C ((if x then s.count else 0) + 1))))) (sym e)))))
          by false e =
              ap (λ (x : Bool). after (k, if x then more else again)) (ap (λ (n : ℕ). s.inc == n) at ∙ e)
              ∙ (ap (λ (x : Bool). T && ((s.lost || nat_lt s.counted s.count) || ((s.by_files || F) || not (x && C 1)))) now
              ∙ (lost_more T s.lost (nat_lt s.counted s.count) s.by_files F (not (C 1))
              ∙ (ap (λ (x : Bool). x || (T && (F || not (C 1)))) (sym (was false e))
              ∙ ap (λ (x : Bool). before (k, s) || (T && (F || not (C ((if x then s.count else 0) + 1))))) (sym e))))
