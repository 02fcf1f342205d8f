-- Facts that steps keep, and stages: what a pass makes of a pair, by what each step does to the packets that are still to be taken.
--
-- The right side takes what stood on the left side's link, and ticks; for the other way round pairs are swapped.
use Rattle.std.proofs.Common.{◌≡◌, Bool, ℕ, zero, suc, true, false, refl, ◌∙◌, arith, List, [], ◌∷◌, ◌++◌, length, if◌then◌else◌}
use Rattle.std.specs.Prelude.{⊤, option_to_list}
use Rattle.qs_base_lemmas.proofs.Tests.{and_first, and_last}
use Rattle.qs_session_channels.specs.End.{End, Packet, received, sent, sent_packet, ticked, tick_packets}
use Rattle.qs_session_settling.specs.Pairs.{Pair, Action, Take, Send, Tick, Step, Left, Right, swapped, stepped, after}
use Rattle.qs_session_settling.specs.Passes.{of_left, of_right, takes_and_ticks, is_pass, sends_none}
use Rattle.qs_session_settling.proofs.Staying.{pair_of}

-- where a stretch is quiet, no message is sent
abbrev pub IsOf : {M : Type 0} → Bool → List (Step M) → Type 0
IsOf true steps = sends_none steps ≡ true
IsOf false steps = ⊤

-- what each step but those in which the right side takes a packet keeps of a pair, where another fact holds
pub record Bears {M : Type 0} (hello : M) (quiet : Bool) (I P : Pair M → Type 0) : Type 0 where
  pub left_takes : (a b : End M) (la ps : List (Packet M)) (p : Packet M) → I (pair_of a b la (p ∷ ps)) → P (pair_of a b la (p ∷ ps)) → P (pair_of (received a p) b la ps)
  pub left_sends : quiet ≡ false → (a b : End M) (la lb : List (Packet M)) (x : M) (stamp : ℕ) → I (pair_of a b la lb) → P (pair_of a b la lb) → P (pair_of (sent a x) b (la ++ option_to_list (sent_packet a x stamp)) lb)
  pub left_ticks : (a b : End M) (la lb : List (Packet M)) (stamp : ℕ) → I (pair_of a b la lb) → P (pair_of a b la lb) → P (pair_of (ticked a) b (la ++ tick_packets hello a stamp) lb)
  pub right_sends : quiet ≡ false → (a b : End M) (la lb : List (Packet M)) (x : M) (stamp : ℕ) → I (pair_of a b la lb) → P (pair_of a b la lb) → P (pair_of a (sent b x) la (lb ++ option_to_list (sent_packet b x stamp)))
  pub right_ticks : (a b : End M) (la lb : List (Packet M)) (stamp : ℕ) → I (pair_of a b la lb) → P (pair_of a b la lb) → P (pair_of a (ticked b) la (lb ++ tick_packets hello b stamp))

-- and what those keep too
pub record Keeps {M : Type 0} (hello : M) (quiet : Bool) (I P : Pair M → Type 0) : Type 0 where
  pub bears : Bears hello quiet I P
  pub right_takes : (a b : End M) (ps lb : List (Packet M)) (p : Packet M) → I (pair_of a b (p ∷ ps) lb) → P (pair_of a b (p ∷ ps) lb) → P (pair_of a (received b p) ps lb)

-- with n packets still to be taken F n holds, and D behind the tick
pub record Stage {M : Type 0} (hello : M) (quiet : Bool) (I : Pair M → Type 0) (F : ℕ → Pair M → Type 0) (D : Pair M → Type 0) : Type 0 where
  pub bears : (n : ℕ) → Bears hello quiet I (F n)
  pub takes : (n : ℕ) (a b : End M) (ps lb : List (Packet M)) (p : Packet M) → I (pair_of a b (p ∷ ps) lb) → F (suc n) (pair_of a b (p ∷ ps) lb) → F n (pair_of a (received b p) ps lb)
  pub finds_none : (n : ℕ) (a b : End M) (lb : List (Packet M)) → I (pair_of a b [] lb) → F (suc n) (pair_of a b [] lb) → F n (pair_of a b [] lb)
  pub takes_more : (a b : End M) (ps lb : List (Packet M)) (p : Packet M) → I (pair_of a b (p ∷ ps) lb) → F 0 (pair_of a b (p ∷ ps) lb) → F 0 (pair_of a (received b p) ps lb)
  pub ticks : (a b : End M) (la lb : List (Packet M)) (stamp : ℕ) → I (pair_of a b la lb) → F 0 (pair_of a b la lb) → D (pair_of a (ticked b) la (lb ++ tick_packets hello b stamp))
  pub keeps : Keeps hello quiet I D

-- each step that a stretch may have keeps it
abbrev pub Stays : {M : Type 0} → M → Bool → (Pair M → Type 0) → Type 0
Stays {M} hello quiet I = (step : Step M) → IsOf quiet (step ∷ []) → (pair : Pair M) → I pair → I (stepped hello step pair)

-- ---- the parts of a stretch

of_head : {M : Type 0} → (quiet : Bool) (step : Step M) (steps : List (Step M)) → IsOf quiet (step ∷ steps) → IsOf quiet (step ∷ [])
of_head false step steps is = tt
of_head true (Left Take) steps is = refl
of_head true (Left (Send x stamp)) steps is = absurd (grind (arith, is))
of_head true (Left (Tick stamp)) steps is = refl
of_head true (Right Take) steps is = refl
of_head true (Right (Send x stamp)) steps is = absurd (grind (arith, is))
of_head true (Right (Tick stamp)) steps is = refl

of_rest : {M : Type 0} → (quiet : Bool) (step : Step M) (steps : List (Step M)) → IsOf quiet (step ∷ steps) → IsOf quiet steps
of_rest false step steps is = tt
of_rest true (Left Take) steps is = is
of_rest true (Left (Send x stamp)) steps is = absurd (grind (arith, is))
of_rest true (Left (Tick stamp)) steps is = is
of_rest true (Right Take) steps is = is
of_rest true (Right (Send x stamp)) steps is = absurd (grind (arith, is))
of_rest true (Right (Tick stamp)) steps is = is

not_quiet : {M : Type 0} → (quiet left : Bool) (x : M) (stamp : ℕ) (steps : List (Step M)) → IsOf quiet ((if left then Left (Send x stamp) else Right (Send x stamp)) ∷ steps) → quiet ≡ false
not_quiet false left x stamp steps is = refl
not_quiet true true x stamp steps is = absurd (grind (arith, is))
not_quiet true false x stamp steps is = absurd (grind (arith, is))

pub stays_after : {M : Type 0} → (hello : M) (quiet : Bool) (I : Pair M → Type 0) → Stays hello quiet I → (steps : List (Step M)) → IsOf quiet steps → (pair : Pair M) → I pair → I (after hello steps pair)
stays_after hello quiet I stays [] of pair is = is
stays_after hello quiet I stays (step ∷ steps) of pair is = stays_after hello quiet I stays steps (of_rest quiet step steps of) (stepped hello step pair) (stays step (of_head quiet step steps of) pair is)

-- ---- what is kept is kept by a whole stretch

keeps_step : {M : Type 0} → (hello : M) (quiet : Bool) (I P : Pair M → Type 0) → Keeps hello quiet I P → (step : Step M) → IsOf quiet (step ∷ []) → (a b : End M) (la lb : List (Packet M)) → I (pair_of a b la lb) → P (pair_of a b la lb) → P (stepped hello step (pair_of a b la lb))
keeps_step hello quiet I P k (Left Take) of a b la [] is h = h
keeps_step hello quiet I P k (Left Take) of a b la (p ∷ ps) is h = k.bears.left_takes a b la ps p is h
keeps_step hello quiet I P k (Left (Send x stamp)) of a b la lb is h = k.bears.left_sends (not_quiet quiet true x stamp [] of) a b la lb x stamp is h
keeps_step hello quiet I P k (Left (Tick stamp)) of a b la lb is h = k.bears.left_ticks a b la lb stamp is h
keeps_step hello quiet I P k (Right Take) of a b [] lb is h = h
keeps_step hello quiet I P k (Right Take) of a b (p ∷ ps) lb is h = k.right_takes a b ps lb p is h
keeps_step hello quiet I P k (Right (Send x stamp)) of a b la lb is h = k.bears.right_sends (not_quiet quiet false x stamp [] of) a b la lb x stamp is h
keeps_step hello quiet I P k (Right (Tick stamp)) of a b la lb is h = k.bears.right_ticks a b la lb stamp is h

pub keeps_after : {M : Type 0} → (hello : M) (quiet : Bool) (I P : Pair M → Type 0) → Stays hello quiet I → Keeps hello quiet I P → (steps : List (Step M)) → IsOf quiet steps → (pair : Pair M) → I pair → P pair → P (after hello steps pair)
keeps_after hello quiet I P stays k [] of pair is h = h
keeps_after hello quiet I P stays k (step ∷ steps) of pair is h =
    keeps_after hello quiet I P stays k steps (of_rest quiet step steps of) (stepped hello step pair) (stays step (of_head quiet step steps of) pair is)
    (keeps_step hello quiet I P k step (of_head quiet step steps of) pair.left.end pair.right.end pair.left.link pair.right.link is h)

-- ---- a stage is gone through by a pass

left_bears : {M : Type 0} → (hello : M) (quiet : Bool) (I P : Pair M → Type 0) → Bears hello quiet I P → (action : Action M) → IsOf quiet (Left action ∷ []) → (a b : End M) (la lb : List (Packet M)) → I (pair_of a b la lb) → P (pair_of a b la lb) → P (stepped hello (Left action) (pair_of a b la lb))
left_bears hello quiet I P k Take of a b la [] is h = h
left_bears hello quiet I P k Take of a b la (p ∷ ps) is h = k.left_takes a b la ps p is h
left_bears hello quiet I P k (Send x stamp) of a b la lb is h = k.left_sends (not_quiet quiet true x stamp [] of) a b la lb x stamp is h
left_bears hello quiet I P k (Tick stamp) of a b la lb is h = k.left_ticks a b la lb stamp is h

stage_take : {M : Type 0} → (hello : M) (quiet : Bool) (I : Pair M → Type 0) (F : ℕ → Pair M → Type 0) (D : Pair M → Type 0) → Stage hello quiet I F D → (n : ℕ) (a b : End M) (la lb : List (Packet M)) → I (pair_of a b la lb) → F (suc n) (pair_of a b la lb) → F n (stepped hello (Right Take) (pair_of a b la lb))
stage_take hello quiet I F D s n a b [] lb is h = s.finds_none n a b lb is h
stage_take hello quiet I F D s n a b (p ∷ ps) lb is h = s.takes n a b ps lb p is h

stage_more : {M : Type 0} → (hello : M) (quiet : Bool) (I : Pair M → Type 0) (F : ℕ → Pair M → Type 0) (D : Pair M → Type 0) → Stage hello quiet I F D → (a b : End M) (la lb : List (Packet M)) → I (pair_of a b la lb) → F 0 (pair_of a b la lb) → F 0 (stepped hello (Right Take) (pair_of a b la lb))
stage_more hello quiet I F D s a b [] lb is h = h
stage_more hello quiet I F D s a b (p ∷ ps) lb is h = s.takes_more a b ps lb p is h

pub staged : {M : Type 0} → (hello : M) (quiet : Bool) (I : Pair M → Type 0) (F : ℕ → Pair M → Type 0) (D : Pair M → Type 0) → Stays hello quiet I → Stage hello quiet I F D
    → (steps : List (Step M)) (n : ℕ) → IsOf quiet steps → (pair : Pair M) → takes_and_ticks of_right n steps ≡ true → I pair → F n pair → D (after hello steps pair)
staged hello quiet I F D stays s [] n of pair whole is h = absurd (grind (arith, whole))
staged hello quiet I F D stays s (Left action ∷ steps) n of pair whole is h =
    let head = of_head quiet (Left action) steps of in
    staged hello quiet I F D stays s steps n (of_rest quiet (Left action) steps of) (stepped hello (Left action) pair) whole (stays (Left action) head pair is)
    (left_bears hello quiet I (F n) (s.bears n) action head pair.left.end pair.right.end pair.left.link pair.right.link is h)
staged hello quiet I F D stays s (Right Take ∷ steps) zero of pair whole is h =
    staged hello quiet I F D stays s steps zero (of_rest quiet (Right Take) steps of) (stepped hello (Right Take) pair) whole (stays (Right Take) (of_head quiet (Right Take) steps of) pair is)
    (stage_more hello quiet I F D s pair.left.end pair.right.end pair.left.link pair.right.link is h)
staged hello quiet I F D stays s (Right Take ∷ steps) (suc n) of pair whole is h =
    staged hello quiet I F D stays s steps n (of_rest quiet (Right Take) steps of) (stepped hello (Right Take) pair) whole (stays (Right Take) (of_head quiet (Right Take) steps of) pair is)
    (stage_take hello quiet I F D s n pair.left.end pair.right.end pair.left.link pair.right.link is h)
staged hello quiet I F D stays s (Right (Send x stamp) ∷ steps) n of pair whole is h =
    staged hello quiet I F D stays s steps n (of_rest quiet (Right (Send x stamp)) steps of) (stepped hello (Right (Send x stamp)) pair) whole (stays (Right (Send x stamp)) (of_head quiet (Right (Send x stamp)) steps of) pair is)
    ((s.bears n).right_sends (not_quiet quiet false x stamp steps of) pair.left.end pair.right.end pair.left.link pair.right.link x stamp is h)
staged hello quiet I F D stays s (Right (Tick stamp) ∷ steps) zero of pair whole is h =
    keeps_after hello quiet I D stays s.keeps steps (of_rest quiet (Right (Tick stamp)) steps of) (stepped hello (Right (Tick stamp)) pair) (stays (Right (Tick stamp)) (of_head quiet (Right (Tick stamp)) steps of) pair is)
    (s.ticks pair.left.end pair.right.end pair.left.link pair.right.link stamp is h)
staged hello quiet I F D stays s (Right (Tick stamp) ∷ steps) (suc n) of pair whole is h =
    staged hello quiet I F D stays s steps (suc n) (of_rest quiet (Right (Tick stamp)) steps of) (stepped hello (Right (Tick stamp)) pair) whole (stays (Right (Tick stamp)) (of_head quiet (Right (Tick stamp)) steps of) pair is)
    ((s.bears (suc n)).right_ticks pair.left.end pair.right.end pair.left.link pair.right.link stamp is h)

-- ---- the other way round

abbrev mirror : {M : Type 0} → Step M → Step M
mirror (Left action) = Right action
mirror (Right action) = Left action

abbrev pub mirrored : {M : Type 0} → List (Step M) → List (Step M)
mirrored [] = []
mirrored (step ∷ steps) = mirror step ∷ mirrored steps

pub after_mirrored : {M : Type 0} → (hello : M) (steps : List (Step M)) (pair : Pair M) → after hello (mirrored steps) (swapped pair) ≡ swapped (after hello steps pair)
after_mirrored hello [] pair = refl
after_mirrored hello (Left action ∷ steps) pair = after_mirrored hello steps (stepped hello (Left action) pair)
after_mirrored hello (Right action ∷ steps) pair = after_mirrored hello steps (stepped hello (Right action) pair)

pub right_mirrored : {M : Type 0} → (n : ℕ) (steps : List (Step M)) → takes_and_ticks of_right n (mirrored steps) ≡ takes_and_ticks of_left n steps
right_mirrored n [] = refl
right_mirrored n (Right action ∷ steps) = right_mirrored n steps
right_mirrored zero (Left Take ∷ steps) = right_mirrored zero steps
right_mirrored (suc n) (Left Take ∷ steps) = right_mirrored n steps
right_mirrored n (Left (Send x stamp) ∷ steps) = right_mirrored n steps
right_mirrored zero (Left (Tick stamp) ∷ steps) = refl
right_mirrored (suc n) (Left (Tick stamp) ∷ steps) = right_mirrored (suc n) steps

quiet_mirrored : {M : Type 0} → (steps : List (Step M)) → sends_none (mirrored steps) ≡ sends_none steps
quiet_mirrored [] = refl
quiet_mirrored (Left Take ∷ steps) = quiet_mirrored steps
quiet_mirrored (Left (Send x stamp) ∷ steps) = refl
quiet_mirrored (Left (Tick stamp) ∷ steps) = quiet_mirrored steps
quiet_mirrored (Right Take ∷ steps) = quiet_mirrored steps
quiet_mirrored (Right (Send x stamp) ∷ steps) = refl
quiet_mirrored (Right (Tick stamp) ∷ steps) = quiet_mirrored steps

pub of_mirrored : {M : Type 0} → (quiet : Bool) (steps : List (Step M)) → IsOf quiet steps → IsOf quiet (mirrored steps)
of_mirrored true steps is = quiet_mirrored steps ∙ is
of_mirrored false steps is = tt

pub by_right : {M : Type 0} → (pair : Pair M) (steps : List (Step M)) → is_pass pair steps ≡ true → takes_and_ticks of_right (length pair.left.link) steps ≡ true
by_right pair steps is = and_last (takes_and_ticks of_left (length pair.right.link) steps) (takes_and_ticks of_right (length pair.left.link) steps) is

pub by_left : {M : Type 0} → (pair : Pair M) (steps : List (Step M)) → is_pass pair steps ≡ true → takes_and_ticks of_left (length pair.right.link) steps ≡ true
by_left pair steps is = and_first (takes_and_ticks of_left (length pair.right.link) steps) (takes_and_ticks of_right (length pair.left.link) steps) is

-- a step keeps it
pub keeps_each : {M : Type 0} → (hello : M) (quiet : Bool) (I P : Pair M → Type 0) → Keeps hello quiet I P → (step : Step M) → IsOf quiet (step ∷ []) → (pair : Pair M) → I pair → P pair → P (stepped hello step pair)
keeps_each hello quiet I P k step of pair is h = keeps_step hello quiet I P k step of pair.left.end pair.right.end pair.left.link pair.right.link is h
