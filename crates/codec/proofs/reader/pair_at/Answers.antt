-- The payload is loaded and as long as the counts demand, so both machines lie in it and are those of the file.
use Prim.Native.Nat.{ℕ, ◌+◌, ◌*◌}
use mathlib.Core.List.{List}
use mathlib.Core.Path.{◌≡◌, ap, ◌∙◌}
use Rattle.codec.specs.declared.reader.Counts.{Counts}
use native.Mathlib.Omega.{arith}
use Rattle.codec.specs.Loading.{counts_of}
use Rattle.codec.specs.Reader.{header_byte, machine_at}
use Rattle.codec.proofs.ReaderLaws.{in_range_lem, machines_fit, pair_is}
use Rattle.codec.proofs.reader.pair_at.Goals as goal

-- the counts are the header's bytes
counted : (f : List ℕ) (k : Counts) → k ≡ counts_of f → (k.c ≡ header_byte f 4) × (k.a ≡ header_byte f 5) × (k.m ≡ header_byte f 6) × (k.n ≡ header_byte f 7)
counted f k e = (ap (λ (k : Counts). k.c) e, ap (λ (k : Counts). k.a) e, ap (λ (k : Counts). k.m) e, ap (λ (k : Counts). k.n) e)

pub machine_at-requires : goal.machine_at-requires
machine_at-requires c =
    let w = c.requires in
    let r = in_range_lem _ w.counts in
    omega (arith, counted _ _ c.counts-counts.ensures, machines_fit c.args.head.now.bytes.now, w.room)

pub machine_at-requires-2 : goal.machine_at-requires-2
machine_at-requires-2 c =
    let w = c.requires in
    let r = in_range_lem _ w.counts in
    omega (arith, counted _ _ c.counts-counts.ensures, machines_fit c.args.head.now.bytes.now, w.room)

pub returns : goal.returns
returns c =
    let k = c.counts-counts.ensures in
    pair_is c.args.head.now.bytes.now c.args.q.now _ _ _ c.requires (c.machine_at.ensures ∙ ap (λ (k : Counts). machine_at c.args.q.now 16 k.c k.m) k)
    (c.machine_at-2.ensures ∙ ap (λ (k : Counts). machine_at c.args.q.now (24 + 9 * k.c + 8 * k.m) k.a k.n) k) c.byte.ensures
