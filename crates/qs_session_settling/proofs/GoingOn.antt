-- Each step over two nodes of a network is an event of it, or none.
use Rattle.std.proofs.Common.{◌≡◌, ◌≢◌, ℕ, zero, suc, refl, sym, subst, ap, ◌∙◌, arith, List, [], ◌∷◌, ◌++◌, inl, inr}
use Rattle.std.specs.Prelude.{option_to_list}
use Rattle.std.proofs.lemmas.Bool.Decides.{nat_tests}
use Rattle.qs_session_channels.specs.End.{End, Packet, answer, received, sent, sent_packet, ticked, tick_packets}
use Rattle.qs_session_channels.specs.Network.{Network, Event, Send, Tick, Receive, Among, Run, stepped, with_at2}
use Rattle.qs_session_settling.specs.Pairs as pairs
use Rattle.qs_session_settling.specs.Pairs.{Pair, Action, Step, Left, Right, swapped, after}
use Rattle.qs_session_settling.specs.Passes.{QuietPasses}
use Rattle.qs_session_settling.specs.Ran.{AreAmong, between, AreUp}
use Rattle.qs_session_settling.specs.Delivered.{GoesOn}
use Rattle.qs_session_settling.proofs.Staying.{pair_of}

-- ---- the value at one pair of nodes changed

at_same : {A : Type 0} → (f : ℕ → ℕ → A) (n m : ℕ) (x : A) → with_at2 f n m x n m ≡ x
at_same f n m x = grind (arith, nat_tests)

at_other : {A : Type 0} → (f : ℕ → ℕ → A) (n m : ℕ) (x : A) → n ≢ m → with_at2 f n m x m n ≡ f m n
at_other f n m x apart = grind (arith, nat_tests, apart)

-- ---- what was sent before was sent

among_more : {A : Type 0} → (more sent : List A) (p : A) → Among sent p → Among (more ++ sent) p
among_more [] sent p h = h
among_more (x ∷ more) sent p h = inr (among_more more sent p h)

among_front : {A : Type 0} → (more sent : List A) (p : A) → Among more p → Among (more ++ sent) p
among_front [] sent p h = absurd h
among_front (x ∷ more) sent p (inl h) = inl h
among_front (x ∷ more) sent p (inr h) = inr (among_front more sent p h)

all_more : {A : Type 0} → (more sent ps : List A) → AreAmong sent ps → AreAmong (more ++ sent) ps
all_more more sent [] h = tt
all_more more sent (p ∷ ps) h = (among_more more sent p h.0, all_more more sent ps h.1)

each_in : {A : Type 0} → (sent ps : List A) → ((p : A) → Among ps p → Among sent p) → AreAmong sent ps
each_in sent [] so = tt
each_in sent (p ∷ ps) so = (so p (inl refl), each_in sent ps (λ q h. so q (inr h)))

all_both : {A : Type 0} → (sent ps qs : List A) → AreAmong sent ps → AreAmong sent qs → AreAmong sent (ps ++ qs)
all_both sent [] qs h more = more
all_both sent (p ∷ ps) qs h more = (h.0, all_both sent ps qs h.1 more)

-- ---- the left node makes an event that puts packets

abbrev put_by : {M : Type 0} → Network M → ℕ → ℕ → End M → List (Packet M) → Network M
put_by w n m f ps = record w { end = with_at2 w.end n m f; packets = with_at2 w.packets n m (ps ++ w.packets n m) }

up_put : {M : Type 0} → (w : Network M) (n m : ℕ) → n ≢ m → (f : End M) (ps there back : List (Packet M)) → AreUp w n m there back → AreUp (put_by w n m f ps) n m (there ++ ps) back
up_put {M} w n m apart f ps there back up = record {
  left = up.left;
  right = up.right;
  sent_there = subst (λ (xs : List (Packet M)). AreAmong xs (there ++ ps)) (sym (at_same w.packets n m (ps ++ w.packets n m)))
      (all_both (ps ++ w.packets n m) there ps (all_more ps (w.packets n m) there up.sent_there) (each_in (ps ++ w.packets n m) ps (among_front ps (w.packets n m))));
  sent_back = subst (λ (xs : List (Packet M)). AreAmong xs back) (sym (at_other w.packets n m (ps ++ w.packets n m) apart)) up.sent_back;
}

pair_put : {M : Type 0} → (w : Network M) (n m : ℕ) → n ≢ m → (f : End M) (ps there back : List (Packet M)) → between (put_by w n m f ps) n m there back ≡ pair_of f (w.end m n) there back
pair_put {M} w n m apart f ps there back = ap (λ e. pair_of e (with_at2 w.end n m f m n) there back) (at_same w.end n m f) ∙ ap (λ e. pair_of f e there back) (at_other w.end n m f apart)

-- ---- or takes one

abbrev end_at : {M : Type 0} → Network M → ℕ → ℕ → End M → Network M
end_at w n m f = record w { end = with_at2 w.end n m f }

pair_at : {M : Type 0} → (w : Network M) (n m : ℕ) → n ≢ m → (f : End M) (there back : List (Packet M)) → between (end_at w n m f) n m there back ≡ pair_of f (w.end m n) there back
pair_at w n m apart f there back = ap (λ e. pair_of e (with_at2 w.end n m f m n) there back) (at_same w.end n m f) ∙ ap (λ e. pair_of f e there back) (at_other w.end n m f apart)

left_goes : {M : Type 0} → (hello : M) (w : Network M) (n m : ℕ) → n ≢ m → (there back : List (Packet M)) → AreUp w n m there back → (action : Action M) → GoesOn hello w n m (pairs.stepped hello (Left action) (between w n m there back))
left_goes hello w n m apart there [] up pairs.Take = record { events = []; network = w; runs = refl; are_up = up; are_pair = refl }
left_goes hello w n m apart there (p ∷ back) up pairs.Take = record {
  events = Receive n m p (answer (w.end n m) p) ∷ [];
  network = end_at w n m (received (w.end n m) p);
  runs = ((up.left, up.sent_back.0, refl), refl);
  are_up = record { left = up.left; right = up.right; sent_there = up.sent_there; sent_back = up.sent_back.1 };
  are_pair = pair_at w n m apart (received (w.end n m) p) there back;
}
left_goes hello w n m apart there back up (pairs.Send x stamp) =
    let ps = option_to_list (sent_packet (w.end n m) x stamp) in
    record {
      events = Send n m x stamp ∷ [];
      network = put_by w n m (sent (w.end n m) x) ps;
      runs = (up.left, refl);
      are_up = up_put w n m apart (sent (w.end n m) x) ps there back up;
      are_pair = pair_put w n m apart (sent (w.end n m) x) ps (there ++ ps) back;
    }
left_goes hello w n m apart there back up (pairs.Tick stamp) =
    let ps = tick_packets hello (w.end n m) stamp in
    record {
      events = Tick n m stamp ∷ [];
      network = put_by w n m (ticked (w.end n m)) ps;
      runs = (up.left, refl);
      are_up = up_put w n m apart (ticked (w.end n m)) ps there back up;
      are_pair = pair_put w n m apart (ticked (w.end n m)) ps (there ++ ps) back;
    }

-- ---- either side, and step by step

goes_swapped : {M : Type 0} → (hello : M) (w : Network M) (n m : ℕ) (pair : Pair M) → GoesOn hello w n m pair → GoesOn hello w m n (swapped pair)
goes_swapped hello w n m pair g = record {
  events = g.events;
  network = g.network;
  runs = g.runs;
  are_up = record { left = g.are_up.right; right = g.are_up.left; sent_there = g.are_up.sent_back; sent_back = g.are_up.sent_there };
  are_pair = ap swapped g.are_pair;
}

step_goes : {M : Type 0} → (hello : M) (w : Network M) (n m : ℕ) → n ≢ m → (there back : List (Packet M)) → AreUp w n m there back → (step : Step M) → GoesOn hello w n m (pairs.stepped hello step (between w n m there back))
step_goes hello w n m apart there back up (Left action) = left_goes hello w n m apart there back up action
step_goes hello w n m apart there back up (Right action) =
    let other : AreUp w m n back there = record { left = up.right; right = up.left; sent_there = up.sent_back; sent_back = up.sent_there } in
    goes_swapped hello w m n (pairs.stepped hello (Left action) (between w m n back there)) (left_goes hello w m n (λ same. apart (sym same)) back there other action)

run_both : {M : Type 0} → (hello : M) (es fs : List (Event M)) (w v u : Network M) → Run hello w es v → Run hello v fs u → Run hello w (es ++ fs) u
run_both {M} hello [] fs w v u first rest = subst (λ (x : Network M). Run hello x fs u) first rest
run_both hello (e ∷ es) fs w v u first rest = (first.0, run_both hello es fs (stepped hello e w) v u first.1 rest)

-- a network that goes on to a pair, and from there to another
goes_both : {M : Type 0} → (hello : M) (w : Network M) (n m : ℕ) (mid new : Pair M) → (g : GoesOn hello w n m mid) → GoesOn hello g.network n m new → GoesOn hello w n m new
goes_both hello w n m mid new g h = record { events = g.events ++ h.events; network = h.network; runs = run_both hello g.events h.events w g.network h.network g.runs h.runs; are_up = h.are_up; are_pair = h.are_pair }

pub goes_on : {M : Type 0} → (hello : M) (w : Network M) (n m : ℕ) → n ≢ m → (there back : List (Packet M)) → AreUp w n m there back → (steps : List (Step M)) → GoesOn hello w n m (after hello steps (between w n m there back))
goes_on hello w n m apart there back up [] = record { events = []; network = w; runs = refl; are_up = up; are_pair = refl }
goes_on {M} hello w n m apart there back up (step ∷ steps) =
    let g = step_goes hello w n m apart there back up step in
    let next = pairs.stepped hello step (between w n m there back) in
    let h = goes_on hello g.network n m apart next.left.link next.right.link g.are_up steps in
    goes_both hello w n m next (after hello steps next) g (subst (λ (x : Pair M). GoesOn hello g.network n m (after hello steps x)) g.are_pair h)

-- and pass by pass
pub passes_go : {M : Type 0} → (hello : M) (k : ℕ) (w : Network M) (n m : ℕ) → n ≢ m → (there back : List (Packet M)) → AreUp w n m there back → (new : Pair M) → QuietPasses hello k (between w n m there back) new → GoesOn hello w n m new
passes_go {M} hello zero w n m apart there back up new same = subst (λ (x : Pair M). GoesOn hello w n m x) (sym same) (goes_on hello w n m apart there back up [])
passes_go {M} hello (suc k) w n m apart there back up new (steps, is, none, rest) =
    let g = goes_on hello w n m apart there back up steps in
    let next = after hello steps (between w n m there back) in
    let from = subst (λ (x : Pair M). QuietPasses hello k x new) (sym g.are_pair) rest in
    goes_both hello w n m next new g (passes_go hello k g.network n m apart next.left.link next.right.link g.are_up new from)
