-- What a call of a function that requires nothing asks. Assumes nothing.
pub nothing : {C K : Type 0} → C → K → Unit {0}
nothing c k = tt
