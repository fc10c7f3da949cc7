-- `finder_passing::lanes` meets its contract. Assumes nothing.
use Rattle.std.proofs.Common.{ℕ, ◌+◌, get_or, sym, ap, ◌∙◌, add-zero}
use Rattle.finder_passing.proofs.Sums.{wrapped, sum_is}
use Rattle.finder_passing.proofs.lanes.Goals as goal

pub returns : goal.returns
returns c =
    let e = c.looked_up-5.ensures in
    let d = c.looked_up-4.ensures in
    let f = c.looked_up-3.ensures in
    let b = c.looked_up-2.ensures in
    let a = c.looked_up.ensures in
    let given = c.args in
    let place = ap (λ (k : ℕ). get_or given.buffer.now k 0) (sym (add-zero given.at)) in
    let sums = c.wrapping_add_u64.ensures.value
    ∙ ap (λ (n : ℕ). wrapped n c.looked_up-5.result) (c.wrapping_add_u64-sum-3.ensures.value
    ∙ ap (λ (n : ℕ). wrapped n c.looked_up-4.result) (c.wrapping_add_u64-sum-2.ensures.value
    ∙ ap (λ (n : ℕ). wrapped n c.looked_up-3.result)
    c.wrapping_add_u64-sum.ensures.value)) in
    λ m t hm made.
    sums
    ∙ sum_is given.buffer.now given.table.now given.at m t
    c.requires hm made (rw place at a.0) b.0 f.0 d.0 e.0
    (a.1 ∙ ap (λ (n : ℕ). get_or given.table.now (0 + n) 0) place) b.1 f.1 d.1 e.1
