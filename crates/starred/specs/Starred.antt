-- The rows of 01's bench table that are marked *, one field for each, in the table's order: one statement of the definitions.
use Rattle.std.specs.Prelude.{◌≡◌, true, false, ◌-◌, ◌^◌, pos, negsuc}
use Rattle.std.specs.Float.{fin, binary32}
use Rattle.std.specs.Float.Ieee.{of_bits, to_bits, of_int}
use Rattle.root.specs.Root.{sqrt_of}
use Rattle.remap.specs.Composition.{compose_of, inverse_of}
use Rattle.step.specs.Bench.{StarredRows}

pub record Starred : Type 0 where
  -- root of 2.0 has bits 3FB504F3
  pub root_of_2 : to_bits binary32 (sqrt_of (fin false 1 (pos 1))) ≡ 0x3FB5_04F3
  -- of 0.25 is 0.5
  pub root_of_quarter : sqrt_of (fin false 1 (negsuc 1)) ≡ fin false 1 (negsuc 0)
  -- of the largest finite f32 is 2^64 - 2^40
  pub root_of_largest : sqrt_of (of_bits binary32 0x7F7F_FFFF) ≡ fin false (2 ^ 24 - 1) (pos 40)
  -- of -0.0 is -0.0
  pub root_of_minus_zero : sqrt_of (fin true 0 (pos 0)) ≡ fin true 0 (pos 0)
  -- i32 16777217 converts to 16777216, which is 2^24
  pub whole_down : of_int binary32 (pos 16777217) ≡ fin false 1 (pos 24)
  -- 16777219 converts to 16777220, which is 4194305 * 2^2
  pub whole_up : of_int binary32 (pos 16777219) ≡ fin false 4194305 (pos 2)
  -- 1 then 1 is 2; 1 then 11 is 20; 11 then 1 is 8; 3 undoes 1
  pub one_then_one : compose_of 1 1 ≡ 2
  pub one_then_eleven : compose_of 1 11 ≡ 20
  pub eleven_then_one : compose_of 11 1 ≡ 8
  pub three_undoes_one : inverse_of 1 ≡ 3
  -- T = 3, four readings over the limit: zero, zero, zero, residual, triggers 1, 2, 3, 3;
  -- T = 20, trigger 20 in recovery, good readings: 11, 2, 0, and recovery ends at the third
  pub rejection_steps : StarredRows
