-- `calculator_shape::decide` meets its contract: each way out at the numbers that lead there. Assumes nothing.
use mathlib.Core.Path.{refl}
use mathlib.Core.Logic.{⊎_elim}
use mathlib.Core.List.{List, [], ◌∷◌}
use Prim.Native.Nat.{ℕ}
use native.Mathlib.Omega.{arith}
use Rattle.standard.specs.Instruction.{table, instruction}
use Rattle.calculator_shape.proofs.Table.{shapes, inside, onward}
use Rattle.calculator_shape.proofs.decide.Goals as goal

-- the single numbers of the arms, the last arm first
abbrev singles : List (List ℕ)
singles =
    (256 ∷ []) ∷ (206 ∷ 209 ∷ []) ∷ (174 ∷ 177 ∷ []) ∷ (130 ∷ []) ∷ (123 ∷ []) ∷ (14 ∷ []) ∷ (82 ∷ 275 ∷ []) ∷ (77 ∷ 122 ∷ 148 ∷ []) ∷ (83 ∷ []) ∷
    (34 ∷ []) ∷ (32 ∷ []) ∷ (30 ∷ []) ∷ (28 ∷ []) ∷ (26 ∷ []) ∷ (23 ∷ []) ∷ (29 ∷ 33 ∷ []) ∷ (27 ∷ 31 ∷ []) ∷ (20 ∷ []) ∷ (19 ∷ []) ∷ (18 ∷ []) ∷
    (13 ∷ []) ∷ (12 ∷ []) ∷ []

pub returns-in-12 : goal.returns-in-12
unfolding shapes instruction table
returns-in-12 c = rw c.in-12.is

pub returns-in-13 : goal.returns-in-13
unfolding shapes instruction table
returns-in-13 c = rw c.in-13.is

pub returns-in-18 : goal.returns-in-18
unfolding shapes instruction table
returns-in-18 c = rw c.in-18.is

pub returns-in-19 : goal.returns-in-19
unfolding shapes instruction table
returns-in-19 c = rw c.in-19.is

pub returns-in-20 : goal.returns-in-20
unfolding shapes instruction table
returns-in-20 c = rw c.in-20.is

pub returns-in-27 : goal.returns-in-27
unfolding shapes instruction table
returns-in-27 c = ⊎_elim (λ e. rw e) (λ e. rw e) c.in-27.is

pub returns-in-29 : goal.returns-in-29
unfolding shapes instruction table
returns-in-29 c = ⊎_elim (λ e. rw e) (λ e. rw e) c.in-29.is

pub returns-in-23 : goal.returns-in-23
unfolding shapes instruction table
returns-in-23 c = rw c.in-23.is

pub returns-in-26 : goal.returns-in-26
unfolding shapes instruction table
returns-in-26 c = rw c.in-26.is

pub returns-in-28 : goal.returns-in-28
unfolding shapes instruction table
returns-in-28 c = rw c.in-28.is

pub returns-in-30 : goal.returns-in-30
unfolding shapes instruction table
returns-in-30 c = rw c.in-30.is

pub returns-in-32 : goal.returns-in-32
unfolding shapes instruction table
returns-in-32 c = rw c.in-32.is

pub returns-in-34 : goal.returns-in-34
unfolding shapes instruction table
returns-in-34 c = rw c.in-34.is

pub returns-in-15-to-17 : goal.returns-in-15-to-17
unfolding shapes instruction table
returns-in-15-to-17 c = inside singles _ 12 6 refl c.in-15-to-17.in_default-own.rest (omega arith) (omega arith)

pub returns-in-21 : goal.returns-in-21
unfolding shapes instruction table
returns-in-21 c = inside singles _ 18 5 refl c.in-21.in_default-own.rest (omega arith) (omega arith)

pub returns-in-24 : goal.returns-in-24
unfolding shapes instruction table
returns-in-24 c = inside singles _ 23 3 refl c.in-24.in_default-own.rest (omega arith) (omega arith)

pub returns-in-107-to-109 : goal.returns-in-107-to-109
unfolding shapes instruction table
returns-in-107-to-109 c = inside singles _ 107 3 refl c.in-107-to-109.in_default-own.rest (omega arith) (omega arith)

pub returns-in-107-to-109-2 : goal.returns-in-107-to-109-2
unfolding shapes instruction table
returns-in-107-to-109-2 c = inside singles _ 139 3 refl c.in-107-to-109.in_default-own.rest (omega arith) (omega arith)

pub returns-in-107-to-109-3 : goal.returns-in-107-to-109-3
unfolding shapes instruction table
returns-in-107-to-109-3 c = inside singles _ 171 3 refl c.in-107-to-109.in_default-own.rest (omega arith) (omega arith)

pub returns-in-107-to-109-4 : goal.returns-in-107-to-109-4
unfolding shapes instruction table
returns-in-107-to-109-4 c = inside singles _ 203 3 refl c.in-107-to-109.in_default-own.rest (omega arith) (omega arith)

pub returns-in_default : goal.returns-in_default
unfolding shapes instruction table
returns-in_default c = inside singles _ 0 12 refl c.in_default.in_default-own.rest (omega arith) (omega arith)

pub returns-in_default-2 : goal.returns-in_default-2
unfolding shapes instruction table
returns-in_default-2 c = inside singles _ 82 12 refl c.in_default.in_default-own.rest (omega arith) (omega arith)

pub returns-in_default-3 : goal.returns-in_default-3
unfolding shapes instruction table
returns-in_default-3 c = inside singles _ 154 1 refl c.in_default.in_default-own.rest (omega arith) (omega arith)

pub returns-in_default-4 : goal.returns-in_default-4
unfolding shapes instruction table
returns-in_default-4 c = inside singles _ 162 1 refl c.in_default.in_default-own.rest (omega arith) (omega arith)

pub returns-in_default-5 : goal.returns-in_default-5
unfolding shapes instruction table
returns-in_default-5 c = inside singles _ 165 2 refl c.in_default.in_default-own.rest (omega arith) (omega arith)

pub returns-in_default-6 : goal.returns-in_default-6
unfolding shapes instruction table
returns-in_default-6 c = inside singles _ 174 7 refl c.in_default.in_default-own.rest (omega arith) (omega arith)

pub returns-in_default-7 : goal.returns-in_default-7
unfolding shapes instruction table
returns-in_default-7 c = inside singles _ 187 1 refl c.in_default.in_default-own.rest (omega arith) (omega arith)

pub returns-in_default-8 : goal.returns-in_default-8
unfolding shapes instruction table
returns-in_default-8 c = inside singles _ 194 1 refl c.in_default.in_default-own.rest (omega arith) (omega arith)

pub returns-in_default-9 : goal.returns-in_default-9
unfolding shapes instruction table
returns-in_default-9 c = inside singles _ 197 2 refl c.in_default.in_default-own.rest (omega arith) (omega arith)

pub returns-in_default-10 : goal.returns-in_default-10
unfolding shapes instruction table
returns-in_default-10 c = inside singles _ 206 7 refl c.in_default.in_default-own.rest (omega arith) (omega arith)

pub returns-in_default-11 : goal.returns-in_default-11
unfolding shapes instruction table
returns-in_default-11 c = inside singles _ 226 2 refl c.in_default.in_default-own.rest (omega arith) (omega arith)

pub returns-in_default-12 : goal.returns-in_default-12
unfolding shapes instruction table
returns-in_default-12 c = inside singles _ 238 2 refl c.in_default.in_default-own.rest (omega arith) (omega arith)

pub returns-in_default-13 : goal.returns-in_default-13
unfolding shapes instruction table
returns-in_default-13 c = inside singles _ 256 9 refl c.in_default.in_default-own.rest (omega arith) (omega arith)

pub returns-in_default-14 : goal.returns-in_default-14
unfolding shapes instruction table
returns-in_default-14 c = onward singles 275 1 refl c.in_default.in_default-own.rest (omega arith)

pub returns-in-256 : goal.returns-in-256
unfolding shapes instruction table
returns-in-256 c = rw c.in-256.in-256-own.keys22

pub returns-in-256-2 : goal.returns-in-256-2
unfolding shapes instruction table
returns-in-256-2 c = inside singles _ 269 6 refl c.in-256.in_default-own.rest (omega arith) (omega arith)

pub returns-in-206 : goal.returns-in-206
unfolding shapes instruction table
returns-in-206 c = ⊎_elim (λ e. rw e) (λ e. rw e) c.in-206.in-206-own.keys21

pub returns-in-206-2 : goal.returns-in-206-2
unfolding shapes instruction table
returns-in-206-2 c = inside singles _ 213 11 refl c.in-206.in_default-own.rest (omega arith) (omega arith)

pub returns-in-206-3 : goal.returns-in-206-3
unfolding shapes instruction table
returns-in-206-3 c = inside singles _ 228 8 refl c.in-206.in_default-own.rest (omega arith) (omega arith)

pub returns-in-206-4 : goal.returns-in-206-4
unfolding shapes instruction table
returns-in-206-4 c = inside singles _ 240 8 refl c.in-206.in_default-own.rest (omega arith) (omega arith)

pub returns-in-174 : goal.returns-in-174
unfolding shapes instruction table
returns-in-174 c = ⊎_elim (λ e. rw e) (λ e. rw e) c.in-174.in-174-own.keys20

pub returns-in-174-2 : goal.returns-in-174-2
unfolding shapes instruction table
returns-in-174-2 c = inside singles _ 181 6 refl c.in-174.in_default-own.rest (omega arith) (omega arith)

pub returns-in-174-3 : goal.returns-in-174-3
unfolding shapes instruction table
returns-in-174-3 c = inside singles _ 188 4 refl c.in-174.in_default-own.rest (omega arith) (omega arith)

pub returns-in-130 : goal.returns-in-130
unfolding shapes instruction table
returns-in-130 c = rw c.in-130.in-130-own.keys19

pub returns-in-130-2 : goal.returns-in-130-2
unfolding shapes instruction table
returns-in-130-2 c = inside singles _ 133 2 refl c.in-130.in_default-own.rest (omega arith) (omega arith)

pub returns-in-130-3 : goal.returns-in-130-3
unfolding shapes instruction table
returns-in-130-3 c = inside singles _ 142 12 refl c.in-130.in_default-own.rest (omega arith) (omega arith)

pub returns-in-130-4 : goal.returns-in-130-4
unfolding shapes instruction table
returns-in-130-4 c = inside singles _ 155 5 refl c.in-130.in_default-own.rest (omega arith) (omega arith)

pub returns-in-101 : goal.returns-in-101
unfolding shapes instruction table
returns-in-101 c = rw c.in-101.in-101-own.keys18

pub returns-in-101-2 : goal.returns-in-101-2
unfolding shapes instruction table
returns-in-101-2 c = inside singles _ 101 2 refl c.in-101.in_default-own.rest (omega arith) (omega arith)

pub returns-in-101-3 : goal.returns-in-101-3
unfolding shapes instruction table
returns-in-101-3 c = inside singles _ 110 6 refl c.in-101.in_default-own.rest (omega arith) (omega arith)

pub returns-in-101-4 : goal.returns-in-101-4
unfolding shapes instruction table
returns-in-101-4 c = inside singles _ 118 4 refl c.in-101.in_default-own.rest (omega arith) (omega arith)

pub returns-in-83 : goal.returns-in-83
unfolding shapes instruction table
returns-in-83 c = rw c.in-83.is

pub returns-in-83-2 : goal.returns-in-83-2
unfolding shapes instruction table
returns-in-83-2 c = inside singles _ 99 2 refl c.in-83.in_default-own.rest (omega arith) (omega arith)

pub returns-in-83-3 : goal.returns-in-83-3
unfolding shapes instruction table
returns-in-83-3 c = inside singles _ 130 3 refl c.in-83.in_default-own.rest (omega arith) (omega arith)

pub returns-in-83-4 : goal.returns-in-83-4
unfolding shapes instruction table
returns-in-83-4 c = inside singles _ 163 2 refl c.in-83.in_default-own.rest (omega arith) (omega arith)

pub returns-in-83-5 : goal.returns-in-83-5
unfolding shapes instruction table
returns-in-83-5 c = inside singles _ 195 2 refl c.in-83.in_default-own.rest (omega arith) (omega arith)

pub returns-in-82 : goal.returns-in-82
unfolding shapes instruction table
returns-in-82 c = ⊎_elim (λ e. rw e) (λ e. rw e) c.in-82.in-82-own.keys16

pub returns-in-82-2 : goal.returns-in-82-2
unfolding shapes instruction table
returns-in-82-2 c = inside singles _ 265 4 refl c.in-82.in_default-own.rest (omega arith) (omega arith)

pub returns-in-77 : goal.returns-in-77
unfolding shapes instruction table
returns-in-77 c = ⊎_elim (λ e. rw e) (⊎_elim (λ e. rw e) (λ e. rw e)) c.in-77.in-77-own.keys15

pub returns-in-77-2 : goal.returns-in-77-2
unfolding shapes instruction table
returns-in-77-2 c = inside singles _ 94 5 refl c.in-77.in_default-own.rest (omega arith) (omega arith)

pub returns-in-77-3 : goal.returns-in-77-3
unfolding shapes instruction table
returns-in-77-3 c = inside singles _ 103 4 refl c.in-77.in_default-own.rest (omega arith) (omega arith)

pub returns-in-77-4 : goal.returns-in-77-4
unfolding shapes instruction table
returns-in-77-4 c = inside singles _ 116 2 refl c.in-77.in_default-own.rest (omega arith) (omega arith)

pub returns-in-77-5 : goal.returns-in-77-5
unfolding shapes instruction table
returns-in-77-5 c = inside singles _ 122 8 refl c.in-77.in_default-own.rest (omega arith) (omega arith)

pub returns-in-77-6 : goal.returns-in-77-6
unfolding shapes instruction table
returns-in-77-6 c = inside singles _ 135 4 refl c.in-77.in_default-own.rest (omega arith) (omega arith)

pub returns-in-77-7 : goal.returns-in-77-7
unfolding shapes instruction table
returns-in-77-7 c = inside singles _ 160 2 refl c.in-77.in_default-own.rest (omega arith) (omega arith)

pub returns-in-77-8 : goal.returns-in-77-8
unfolding shapes instruction table
returns-in-77-8 c = inside singles _ 167 4 refl c.in-77.in_default-own.rest (omega arith) (omega arith)

pub returns-in-77-9 : goal.returns-in-77-9
unfolding shapes instruction table
returns-in-77-9 c = inside singles _ 192 2 refl c.in-77.in_default-own.rest (omega arith) (omega arith)

pub returns-in-77-10 : goal.returns-in-77-10
unfolding shapes instruction table
returns-in-77-10 c = inside singles _ 199 4 refl c.in-77.in_default-own.rest (omega arith) (omega arith)

pub returns-in-77-11 : goal.returns-in-77-11
unfolding shapes instruction table
returns-in-77-11 c = inside singles _ 224 2 refl c.in-77.in_default-own.rest (omega arith) (omega arith)

pub returns-in-77-12 : goal.returns-in-77-12
unfolding shapes instruction table
returns-in-77-12 c = inside singles _ 236 2 refl c.in-77.in_default-own.rest (omega arith) (omega arith)

pub returns-in-77-13 : goal.returns-in-77-13
unfolding shapes instruction table
returns-in-77-13 c = inside singles _ 248 8 refl c.in-77.in_default-own.rest (omega arith) (omega arith)

pub returns-in-14 : goal.returns-in-14
unfolding shapes instruction table
returns-in-14 c = rw c.in-14.in-14-own.keys17

pub returns-in-14-2 : goal.returns-in-14-2
unfolding shapes instruction table
returns-in-14-2 c = inside singles _ 26 56 refl c.in-14.in_default-own.rest (omega arith) (omega arith)
