-- The statements' proofs, by induction on the number of files: what a walk holds after files that were Carried; the matching of plays along a chain; that
-- an end stays, and with which file it came.
use Rattle.std.specs.Prelude.{refl, true, List, ◌≡◌, ◌⊎◌, ℕ, zero, suc, ◌+◌, ◌-◌, ◌≤◌, ◌<◌, length, replicate, None, Some}
use Rattle.std.proofs.Math.Path.{ap}
use Rattle.std.proofs.Math.Logic.{⊎_elim, by_cases, inl, inr}
use Rattle.std.proofs.Math.Decide.{dec_lt, dec_le}
use Rattle.std.proofs.Common.{sym, ◌∙◌, arith, subst, subst₂}
use Rattle.machine.specs.declared.Machine.{Machine}
use Rattle.machine.specs.declared.Pair.{Pair}
use Rattle.machine.specs.declared.Verdict.TheVariants.{Carried}
use Rattle.machine.specs.Lassos.{Lasso, is_play, SameObservations}
use Rattle.machine.specs.Table.{table_room}
use Rattle.machine.specs.VerdictLaws.{check_said}
use Rattle.codec.specs.Answers.{pair_given}
use Rattle.codec.specs.AnswersLaws.{pair_taken}
use Rattle.codec.specs.Reader.{read_answer}
use Rattle.codec.specs.Outcomes.{table_in}
use Rattle.soundness.specs.PlayLaws.{observations_refl, observations_trans}
use Rattle.soundness.specs.Theorems.{carried_is_sound}
use Rattle.chain.specs.declared.Walk.{Walk}
use Rattle.chain.specs.declared.End.{End}
use Rattle.chain.specs.declared.Said.{Said}
use Rattle.chain.specs.Statements.{file, CarriedFile, IsChain, walk_after, said_of, EachCarried, ChainIsMatched, Holds, CarriedIsChain, ChainIsCarried, WalkIsMatched, EndedStays, EndedWith, EndIsTold}
use Rattle.chain.specs.Walking.{most_files, begun, follows, ends}
use Rattle.chain.specs.WalkingLaws.{follows_first, step_ended}
use Rattle.chain.specs.CarriedLaws.{follows_of, follows_at, not_ended, Carries, moved, carries_step, step_carries, Ends, GoesOn, step_or, ended_step}

-- ---- plays along a chain
-- the lasso l of p's concrete machine has one of q's abstract machine, under q's mask
abbrev Reaches : Pair → Lasso → Pair → Type 0
Reaches p l q = (k : Lasso) × (is_play q.abstraction k ≡ true) × SameObservations q.hidden p.concrete l q.abstraction k

-- a carried file reaches one further, from a lasso of its concrete machine
further : (p : Pair) (l : Lasso) (q : Pair) (f : List ℕ) (n : ℕ) → CarriedFile f q n
    → (k : Lasso) × (is_play q.concrete k ≡ true) × SameObservations q.hidden p.concrete l q.concrete k → Reaches p l q
further p l q f n c x =
    let y = carried_is_sound q (table_in f) n (check_said q (table_in f) (Carried n) c.carried) x.0 x.1 in
    (y.0, y.1, observations_trans q.hidden p.concrete l q.concrete x.0 q.abstraction y.0 x.2 y.2)

module _ (fs : List (List ℕ)) (pair : ℕ → Pair) (chain : IsChain fs pair) (l : Lasso) (play : is_play (pair 0).concrete l ≡ true) where
  reaches : (n : ℕ) → n < length fs → Reaches (pair 0) l (pair n)
  reaches zero h = let c = chain.carried 0 h in
      further (pair 0) l (pair 0) (file fs 0) c.0 c.1 (l, play, observations_refl (pair 0).hidden (pair 0).concrete l)
  reaches (suc n) h =
      let x = reaches n (omega arith) in
      let c = chain.carried (suc n) h in
      let same = sym (chain.follows n h) in
      further (pair 0) l (pair (suc n)) (file fs (suc n)) c.0 c.1 (
        x.0,
        subst (λ (m : Machine). is_play m x.0 ≡ true) same x.1,
        subst₂ (λ (h : ℕ) (m : Machine). SameObservations h (pair 0).concrete l m x.0) (sym (chain.hidden n h)) same x.2,
      )

pub chain_is_matched : ChainIsMatched
chain_is_matched fs pair some chain l play = reaches fs pair chain l play (length fs - 1) (omega arith)

-- ---- what a walk holds behind files that were Carried
module _ (fs : List (List ℕ)) (pair : ℕ → Pair) where
  abbrev walk : ℕ → Walk
  walk n = walk_after begun fs n

  -- after n files; the machines and the mask of the last, if there was one
  record Behind (n : ℕ) : Type 0 where
    place : (walk n).place ≡ n
    ended : (walk n).ended ≡ None
    last : (m : ℕ) → suc m ≡ n → ((walk n).last ≡ (pair m).abstraction) × ((walk n).hidden ≡ (pair m).hidden)

  -- file n is carried, and its machines are pair n
  abbrev Takes : ℕ → Type 0
  Takes n = (k : ℕ) × Carries (walk n) (file fs n) (pair n) k

  behind_begun : Behind 0
  unfolding walk_after begun
  behind_begun = record { place = refl; ended = refl; last = λ m e. absurd (omega (arith, e)) }

  behind_next : (n : ℕ) → Behind n → Takes n → Behind (suc n)
  unfolding walk_after
  behind_next n b t =
      let e : walk (suc n) ≡ moved (walk n) (file fs n) (pair n) = ap (λ (x : Walk × Said). x.0) (carries_step (walk n) (file fs n) t.1) in
      record {
        place = ap (λ (w : Walk). w.place) e ∙ omega (arith, b.place);
        ended = ap (λ (w : Walk). w.ended) e;
        last = λ m same. let is : n ≡ m = omega (arith, same) in
            (ap (λ (w : Walk). w.last) e ∙ ap (λ (i : ℕ). (pair i).abstraction) is, ap (λ (w : Walk). w.hidden) e ∙ ap (λ (i : ℕ). (pair i).hidden) is);
      }

  module _ (takes : (i : ℕ) → i < length fs → Behind i → Takes i) where
    behind : (n : ℕ) → n ≤ length fs → Behind n
    behind zero h = behind_begun
    behind (suc n) h = let b = behind n (omega arith) in behind_next n b (takes n (omega arith) b)

    taken_at : (i : ℕ) → i < length fs → Takes i
    taken_at i h = takes i h (behind i (omega arith))

    each_said : EachCarried fs
    unfolding said_of
    each_said i h = let t = taken_at i h in (t.0, ap (λ (x : Walk × Said). x.1) (carries_step (walk i) (file fs i) t.1))

    follows_last : (i : ℕ) → suc i < length fs → ((pair (suc i)).concrete ≡ (pair i).abstraction) × ((pair (suc i)).hidden ≡ (pair i).hidden)
    follows_last i h =
        let b = behind (suc i) (omega arith) in
        let before = b.last i refl in
        let x = follows_at (walk (suc i)) (pair (suc i)) (taken_at (suc i) h).1.next (λ e. omega (arith, e, b.place)) in
        (x.0 ∙ before.0, x.1 ∙ before.1)

    is_chain : IsChain fs pair
    is_chain = record { carried = λ i h. let t = taken_at i h in (t.0, t.1.file); follows = λ i h. (follows_last i h).0; hidden = λ i h. (follows_last i h).1 }

    few : length fs ≤ most_files
    few = by_cases (dec_lt 0 (length fs))
        (λ some. let i = length fs - 1 in let h : i < length fs = omega arith in
        let below = (taken_at i h).1.below in let place = (behind i (omega arith)).place in omega (arith, below, place, some))
        (λ none. omega arith)

    holds : 0 < length fs → Holds (walk (length fs)) (pair (length fs - 1)) (length fs)
    holds some =
        let b = behind (length fs) (omega arith) in
        let x = b.last (length fs - 1) (omega arith) in
        record { last = x.0; hidden = x.1; place = b.place; ended = b.ended }

-- ---- files that were Carried are a chain
module _ (fs : List (List ℕ)) (each : EachCarried fs) where
  -- the machines that were read
  read : ℕ → Pair
  read i = pair_given (read_answer (file fs i) (replicate table_room 0))

  read_takes : (i : ℕ) → i < length fs → Behind fs read i → Takes fs read i
  unfolding said_of read
  read_takes i h b =
      let s = each i h in
      let c = step_carries (walk_after begun fs i) (file fs i) s.1 in
      (s.0, subst (λ (p : Pair). Carries (walk_after begun fs i) (file fs i) p s.0) (sym (pair_taken c.1.file.reads)) c.1)

pub carried_is_chain : CarriedIsChain
carried_is_chain fs some each =
    let takes = read_takes fs each in let pair = read fs each in
    (few fs pair takes, pair, is_chain fs pair takes, holds fs pair takes some)

-- ---- a chain is Carried
pub chain_is_carried : ChainIsCarried
chain_is_carried fs pair most chain = each_said fs pair takes
  where
    takes : (i : ℕ) → i < length fs → Behind fs pair i → Takes fs pair i
    takes i h b =
        let c = chain.carried i h in
        (c.0, record { going = b.ended; below = omega (arith, b.place, most); file = c.1; next = next i h b })
      where
        next : (i : ℕ) → i < length fs → Behind fs pair i → follows (walk_after begun fs i) (pair i) ≡ true
        next zero h b = follows_first _ _ b.place
        next (suc i) h b = let x = b.last i refl in follows_of _ _ (chain.follows i h ∙ sym x.0) (chain.hidden i h ∙ sym x.1)

-- two readings of one file are one
same_file : {f : List ℕ} {p q : Pair} {m n : ℕ} → CarriedFile f p m → CarriedFile f q n → p ≡ q
same_file c d = sym (pair_taken c.reads) ∙ pair_taken d.reads

pub walk_is_matched : WalkIsMatched
walk_is_matched fs some each p q m n first last l play =
    let x = carried_is_chain fs some each in
    let pair = x.1 in
    let c = x.2 in
    let e : pair 0 ≡ p = same_file (c.carried 0 some).1 first in
    let d : pair (length fs - 1) ≡ q = same_file (c.carried (length fs - 1) (omega arith)).1 last in
    subst₂ (λ (p q : Pair). Reaches p l q) e d (chain_is_matched fs pair some c l (subst (λ (p : Pair). is_play p.concrete l ≡ true) (sym e) play))

-- ---- ends
module _ (w : Walk) (fs : List (List ℕ)) where
  ended_at : (i : ℕ) (e : End) → said_of w fs i ≡ Said.Ended e → (walk_after w fs (suc i)).ended ≡ Some e
  unfolding said_of walk_after
  ended_at i e h = ended_step (walk_after w fs i) (file fs i) h

  -- an ended walk says so of the next file, and stays as it is
  said_again : (n : ℕ) {e : End} → (walk_after w fs n).ended ≡ Some e → said_of w fs n ≡ Said.Ended e
  unfolding said_of
  said_again n h = ap (λ (x : Walk × Said). x.1) (step_ended (walk_after w fs n) (file fs n) h)

  ended_next : (n : ℕ) {e : End} → (walk_after w fs n).ended ≡ Some e → (walk_after w fs (suc n)).ended ≡ Some e
  unfolding walk_after
  ended_next n h = ap (λ (x : Walk × Said). x.0.ended) (step_ended (walk_after w fs n) (file fs n) h) ∙ h

  ended_later : (i : ℕ) {e : End} → (walk_after w fs i).ended ≡ Some e → (n : ℕ) → i ≤ n → (walk_after w fs n).ended ≡ Some e
  ended_later i {e} h zero l = let same : i ≡ 0 = omega (arith, l) in subst (λ (n : ℕ). (walk_after w fs n).ended ≡ Some e) same h
  ended_later i {e} h (suc n) l = by_cases (dec_le i n) (λ q. ended_next n (ended_later i h n q))
      (λ q. let same : i ≡ suc n = omega (arith, l, q) in subst (λ (n : ℕ). (walk_after w fs n).ended ≡ Some e) same h)

pub ended_stays : EndedStays
ended_stays w fs i e h j l = by_cases (dec_lt i j)
    (λ q. said_again w fs j (ended_later w fs (suc i) (ended_at w fs i e h) j q))
    (λ q. let same : i ≡ j = omega (arith, l, q) in subst (λ (n : ℕ). said_of w fs n ≡ Said.Ended e) same h)

module _ (fs : List (List ℕ)) where
  -- each of the first n files was Carried
  record GoneOn (n : ℕ) : Type 0 where
    place : (walk_after begun fs n).place ≡ n
    ended : (walk_after begun fs n).ended ≡ None
    few : n ≤ most_files
    before : (i : ℕ) → i < n → (k : ℕ) × (said_of begun fs i ≡ Said.Carried k)

  -- one of the first n files ended the walk
  abbrev EndedBefore : ℕ → Type 0
  EndedBefore n = (j : ℕ) × (e : End) × (j < n) × EndedWith fs e j × ((walk_after begun fs n).ended ≡ Some e)

  gone_begun : GoneOn 0
  unfolding walk_after begun
  gone_begun = record { place = refl; ended = refl; few = omega arith; before = λ i h. absurd (omega (arith, h)) }

  gone_next : (n : ℕ) → GoneOn n → GoesOn (walk_after begun fs n) (file fs n) → GoneOn (suc n)
  unfolding walk_after said_of
  gone_next n g (k, said) =
      let c = step_carries (walk_after begun fs n) (file fs n) said in
      let e = ap (λ (x : Walk × Said). x.0) (carries_step (walk_after begun fs n) (file fs n) c.1) in
      record {
        place = ap (λ (w : Walk). w.place) e ∙ omega (arith, g.place);
        ended = ap (λ (w : Walk). w.ended) e;
        few = let below = c.1.below in let place = g.place in omega (arith, below, place);
        before = λ i h. by_cases (dec_lt i n) (g.before i)
            (λ other. let same : n ≡ i = omega (arith, h, other) in subst (λ (i : ℕ). (k : ℕ) × (said_of begun fs i ≡ Said.Carried k)) same (k, said));
      }

  ends_here : (n : ℕ) → GoneOn n → (e : End) → Ends (walk_after begun fs n) (file fs n) e → EndedBefore (suc n)
  unfolding walk_after said_of ends
  ends_here n g e s = (
    n,
    e,
    omega arith,
    record { number = s.1 ∙ ap (λ (x : ℕ). x + 1) g.place; few = g.few; before = g.before; here = ap (λ (x : Walk × Said). x.1) s.0 },
    ap (λ (x : Walk × Said). x.0.ended) s.0,
  )

  told : (n : ℕ) → GoneOn n ⊎ EndedBefore n
  told zero = inl gone_begun
  told (suc n) = ⊎_elim
      (λ g. ⊎_elim (λ c. inl (gone_next n g c)) (λ x. inr (ends_here n g x.0 x.1))
      (step_or (walk_after begun fs n) (file fs n) g.ended (let place = g.place in let few = g.few in omega (arith, place, few))))
      (λ x. let h = x.2 in inr (x.0, x.1, omega (arith, h), x.3, ended_next begun fs n x.4))
      (told n)

pub end_is_told : EndIsTold
end_is_told fs i e h = ⊎_elim
    (λ g. absurd (not_ended (sym h ∙ (g.before i (omega arith)).1)))
    (λ x. let below = x.2 in let same : x.1 ≡ e = some_is (sym x.4 ∙ ended_at begun fs i e h) in
    (x.0, omega (arith, below), subst (λ (e : End). EndedWith fs e x.0) same x.3))
    (told fs (suc i))
  where
    some_is : {d e : End} → Some d ≡ Some e → d ≡ e
    some_is q = cc
