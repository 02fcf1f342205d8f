-- What a world's journal, size and channels are after a move, and that channels hold what is so and are sound.
use Rattle.qs_world_runs.proofs.Words.{◌≡◌, inl, inr, ℕ, ◌+◌, ◌≤◌, List, [], ◌∷◌, ◌++◌, length, length-append, sym, ap, subst, ◌∙◌, arith, Channels, Entry, BookValue, book_after, effect, after_both, lawful_front, lawful_rest, book_of, opened_from, IsOpening, Opening, Parcel, World, HoldsChannels, AreSound, opens_soundly, book_in}
use Rattle.qs_book_machine.specs.Lawful.{IsLawful}
use Rattle.qs_world_refine.specs.MoveLaws.{IsSeated}
use Rattle.qs_world_lawful.proofs.SaidStays.{channels_stay}

-- ---- a history in two parts

pub lawful_both : (entries more : List Entry) (book : BookValue) → IsLawful book entries → IsLawful (book_after book entries) more → IsLawful book (entries ++ more)
lawful_both [] more book h k = k
lawful_both (entry ∷ entries) more book h k = (h.0, lawful_both entries more (effect book entry) h.1 k)

-- the machine goes on by what a move entered
pub book_on : (o : Opening) (world new : World) (more : List Entry) → new.journal ≡ world.journal ++ more → book_in o new ≡ book_after (book_in o world) more
book_on o world new more same = ap (book_after (book_of o)) same ∙ after_both world.journal more (book_of o)

pub lawful_on : (o : Opening) (world new : World) (more : List Entry) → new.journal ≡ world.journal ++ more → IsLawful (book_of o) world.journal → IsLawful (book_in o world) more → IsLawful (book_of o) new.journal
lawful_on o world new more same h k = subst (λ (entries : List Entry). IsLawful (book_of o) entries) (sym same) (lawful_both world.journal more (book_of o) h k)

-- and what it entered was lawful
pub lawful_more : (o : Opening) (world new : World) (more : List Entry) → new.journal ≡ world.journal ++ more → IsLawful (book_of o) new.journal → IsLawful (book_in o world) more
lawful_more o world new more same h = lawful_rest world.journal more (book_of o) (subst (λ (entries : List Entry). IsLawful (book_of o) entries) same h)

-- ---- what channels hold is so once the machine went on

pub channels_later : (o : Opening) (world new : World) (more : List Entry) → IsOpening o → new.journal ≡ world.journal ++ more → IsLawful (book_of o) new.journal → (size : ℕ) (c : Channels Parcel)
    → HoldsChannels (book_in o world) size c → HoldsChannels (book_in o new) size c
channels_later o world new more opens same h size c holds = subst (λ (book : BookValue). HoldsChannels book size c) (sym (book_on o world new more same))
    (channels_stay (opened_from o 0 o.size) world.journal more (opens_soundly o opens) (lawful_front world.journal more (book_of o) whole) (lawful_rest world.journal more (book_of o) whole) size c holds)
  where
    whole : IsLawful (book_of o) (world.journal ++ more)
    whole = subst (λ (entries : List Entry). IsLawful (book_of o) entries) same h

-- ---- in a world whose nodes sit in their places, channels are sound

pub seated_sound : (world : World) → IsSeated world → AreSound world.channels
seated_sound world seated = record {
  by_none = λ n m i j unborn. seated.unborn n m i j (inl unborn);
  for_none = λ n m i j unborn. seated.unborn n m i j (inr unborn);
  within = λ n m i j. shorter (world.channels.handed n m i j) (world.channels.posted n m i j) (seated.ordered n m i j).0 (seated.ordered n m i j).1;
}
  where
    least : (a b c : ℕ) → c ≡ a + b → a ≤ c
    least a b c is = omega (arith, is)

    shorter : (handed posted rest : List Parcel) → posted ≡ handed ++ rest → length handed ≤ length posted
    shorter handed posted rest is = least (length handed) (length rest) (length posted) (ap length is ∙ length-append handed rest)
