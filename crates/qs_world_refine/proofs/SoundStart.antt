-- Where a world begins with empty logs, every node is sound.
use Rattle.qs_world_refine.proofs.Words.{◌≡◌, ℕ, ◌<◌, ◌≤◌, ◌==◌, ◌&&◌, Bool, true, List, nat_lt, nat_le, refl, sym, subst, arith, eqb-true, nat_tests, Record, Setting, is_setting, is_audit, each_is}
use Rattle.qs_world.specs.Openings.{is_format, is_age}
use Rattle.qs_world.specs.World.{opened_host}
use Rattle.qs_world_refine.specs.Sound.{is_sound_host}
use Rattle.qs_world_refine.specs.SoundLaws.{StartSound}
use Rattle.qs_world_refine.proofs.SoundParts.{and_both}

-- the test of the node, with its setting
abbrev pub fits : Setting → Bool
fits setting =
    (nat_lt setting.node.0 setting.nodes && (nat_le setting.nodes 16 && nat_lt 0 setting.inc))
    && ((setting.node.0 == setting.node.0) && ((setting.inc == setting.inc) && ((setting.extra == setting.extra) && ((setting.keep == setting.keep) && is_audit setting.nodes setting.audit))))

pub setting_fits : (size n : ℕ) (setting : Setting) → size ≤ 16 → n < size → is_setting size n setting ≡ true → fits setting ≡ true
setting_fits size n setting small in_run is =
    let numbers : (((setting.node.0 == n) && (setting.nodes == size)) ≡ true) × _ = and_both ((setting.node.0 == n) && (setting.nodes == size)) _ is in
    let later : (nat_lt 0 setting.inc ≡ true) × _ = and_both (nat_lt 0 setting.inc) _ numbers.1 in
    let audited : is_audit size setting.audit ≡ true = (and_both (is_format setting.extra setting.keep) _ (and_both (is_age setting.age) _ later.1).1).1 in
    by numbers.0 later.0 (is_audit setting.nodes setting.audit) (subst (λ (k : ℕ). is_audit k setting.audit ≡ true) (sym (eqb-true setting.nodes size (and_both (setting.node.0 == n) (setting.nodes == size) numbers.0).1)) audited)
  where
    by : ((setting.node.0 == n) && (setting.nodes == size)) ≡ true → nat_lt 0 setting.inc ≡ true → (a : Bool) → a ≡ true
        → ((nat_lt setting.node.0 setting.nodes && (nat_le setting.nodes 16 && nat_lt 0 setting.inc)) && ((setting.node.0 == setting.node.0) && ((setting.inc == setting.inc) && ((setting.extra == setting.extra) && ((setting.keep == setting.keep) && a))))) ≡ true
    by named some a its = rw its (grind (arith, nat_tests, small, in_run, named, some))

pub start_sound : StartSound
start_sound o opens empty n in_run =
    subst (λ (log : List Record). is_sound_host (opened_host o.alloc (o.settings n) log) ≡ true) (sym (empty n in_run))
    (rest (fits (o.settings n)) (setting_fits o.size n (o.settings n) small in_run (each_is o.size (λ n. is_setting o.size n (o.settings n)) opens.settings n in_run)))
  where
    small : o.size ≤ 16
    small = grind (arith, nat_tests, (and_both (nat_le 1 o.size) (nat_le o.size 16) opens.size).1)

    rest : (b : Bool) → b ≡ true → (((b && true) && true) && true) ≡ true
    rest b is = rw is refl
