-- The faults of the weight laws and of the shapes as those of the gate.
use Rattle.derive_symbols.specs.declared.WeightFault.{WeightFault}
use Rattle.derive_symbols.specs.declared.WeightFault.TheVariants as weights
use Rattle.shape_check.specs.declared.ShapeFault.{ShapeFault}
use Rattle.shape_check.specs.declared.ShapeFault.TheVariants as shapes
use Rattle.category_gate.specs.declared.GateFault.{GateFault}
use Rattle.category_gate.specs.declared.GateFault.TheVariants as fault

abbrev pub of_weights : WeightFault → GateFault
of_weights (weights.Law event) = fault.Law event
of_weights weights.Memory = fault.Memory

abbrev pub of_shapes : ShapeFault → GateFault
of_shapes (shapes.Law event) = fault.Law event
of_shapes shapes.Memory = fault.Memory
