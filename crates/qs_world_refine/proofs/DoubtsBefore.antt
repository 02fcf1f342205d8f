-- What a log has in doubt behind records it had in doubt before them, or one of them is its Prepare; so what is committed behind them was in doubt, or is prepared among them.
use Rattle.qs_world_refine.proofs.Words.{◌≡◌, ◌⊎◌, ◌||◌, ◌++◌, inl, inr, Bool, true, false, List, [], ◌∷◌, fold, refl, sym, subst, ◌∙◌, list_any, list_any-append, same_tid, Tid, Record, Recovery, found_record, has_doubt, or_left, or_right}
use Rattle.qs_record.specs.declared.record.Record.TheVariants as records
use Rattle.qs_world.specs.Openings.{is_commit_of}
use Rattle.qs_world_refine.specs.SaidLaws.{is_prepare_of}
use Rattle.qs_world_refine.proofs.Doubts.{doubt_same, doubts_ended, doubts_marked}
use Rattle.qs_world_refine.proofs.LogFrames.{record_apart, record_tid}
use Rattle.qs_world_refine.proofs.SoundKnown.{same_is}

module _ (t : Tid) where
  abbrev pub IsPreparedIn : List Record → Type 0
  IsPreparedIn more = list_any (is_prepare_of t) more ≡ true

  doubt_record : (rec : Record) (said : Recovery) → has_doubt t (found_record said rec) ≡ true → (has_doubt t said ≡ true) ⊎ (is_prepare_of t rec ≡ true)
  doubt_record rec said doubt = by (same_tid t (record_tid rec)) refl
    where
      never : (u : Tid) → same_tid t u ≡ true → (after : Recovery) → has_doubt u after ≡ false → has_doubt t after ≡ true → ⊥
      never u same after none some = let its : has_doubt u after ≡ true = subst (λ (k : Tid). has_doubt k after ≡ true) (same_is t u same) some in cc (none, its)

      own : (rec : Record) → same_tid t (record_tid rec) ≡ true → has_doubt t (found_record said rec) ≡ true → (has_doubt t said ≡ true) ⊎ (is_prepare_of t rec ≡ true)
      own (records.Prepare u server covers changes) same some = inr same
      own (records.Commit u []) same some = absurd (never u same (found_record said (records.Commit u [])) (doubts_ended u said.prepared) some)
      own (records.Commit u (first ∷ others)) same some = absurd (never u same (found_record said (records.Commit u (first ∷ others))) (doubts_marked u said.prepared) some)
      own (records.Aborted u) same some = absurd (never u same (found_record said (records.Aborted u)) (doubts_ended u said.prepared) some)
      own (records.End u) same some = absurd (never u same (found_record said (records.End u)) (doubts_ended u said.prepared) some)

      by : (b : Bool) → same_tid t (record_tid rec) ≡ b → (has_doubt t said ≡ true) ⊎ (is_prepare_of t rec ≡ true)
      by true same = own rec same doubt
      by false apart = inl (sym (doubt_same t said (found_record said rec) (record_apart t rec said apart).prepared) ∙ doubt)

  pub doubt_before : (more : List Record) (said : Recovery) → has_doubt t (fold found_record said more) ≡ true → (has_doubt t said ≡ true) ⊎ IsPreparedIn more
  doubt_before [] said doubt = inl doubt
  doubt_before (rec ∷ more) said doubt = by (doubt_before more (found_record said rec) doubt)
    where
      here : ((has_doubt t said ≡ true) ⊎ (is_prepare_of t rec ≡ true)) → (has_doubt t said ≡ true) ⊎ IsPreparedIn (rec ∷ more)
      here (inl old) = inl old
      here (inr its) = inr (or_left (is_prepare_of t rec) (list_any (is_prepare_of t) more) its)

      by : ((has_doubt t (found_record said rec) ≡ true) ⊎ IsPreparedIn more) → (has_doubt t said ≡ true) ⊎ IsPreparedIn (rec ∷ more)
      by (inl d) = here (doubt_record rec said d)
      by (inr later) = inr (or_right (is_prepare_of t rec) (list_any (is_prepare_of t) more) later)

  -- one piece behind another
  module _ (first second : List Record) (said : Recovery) where
    abbrev WasInDoubt : Recovery → List Record → Type 0
    WasInDoubt said more = (has_doubt t said ≡ true) ⊎ IsPreparedIn more

    pub own_then : (list_any (is_commit_of t) first ≡ true → WasInDoubt said first) → (list_any (is_commit_of t) second ≡ true → WasInDoubt (fold found_record said first) second)
        → list_any (is_commit_of t) (first ++ second) ≡ true → WasInDoubt said (first ++ second)
    own_then before after any = by (list_any (is_commit_of t) first) (list_any (is_commit_of t) second) refl refl (sym (list_any-append (is_commit_of t) first second) ∙ any)
      where
        in_first : IsPreparedIn first → IsPreparedIn (first ++ second)
        in_first is = list_any-append (is_prepare_of t) first second ∙ or_left (list_any (is_prepare_of t) first) (list_any (is_prepare_of t) second) is

        in_second : IsPreparedIn second → IsPreparedIn (first ++ second)
        in_second is = list_any-append (is_prepare_of t) first second ∙ or_right (list_any (is_prepare_of t) first) (list_any (is_prepare_of t) second) is

        of_first : WasInDoubt said first → WasInDoubt said (first ++ second)
        of_first (inl d) = inl d
        of_first (inr p) = inr (in_first p)

        of_second : WasInDoubt (fold found_record said first) second → WasInDoubt said (first ++ second)
        of_second (inl d) = of_first (doubt_before first said d)
        of_second (inr p) = inr (in_second p)

        by : (a b : Bool) → list_any (is_commit_of t) first ≡ a → list_any (is_commit_of t) second ≡ b → (a || b) ≡ true → WasInDoubt said (first ++ second)
        by true b one two some = of_first (before one)
        by false true one two some = of_second (after two)
        by false false one two some = absurd (cc (some))
