-- Every row and every text holds: both sides are computed.
use mathlib.Core.Path.{◌≡◌, refl}
use mathlib.Core.Bool.{false}
use lib.IntN.{pos}
use lib.Ieee.{fin, binary64, add, sub, mul, div, neg, lt, le, round, of_int, of_bits, to_bits}
use Rattle.root.specs.Value.{root}
use Rattle.tape.specs.Rows.{Holds, float, rooted, EveryRow, EveryChoice, EveryRoot, EverySlice, EveryHandle, EveryText}
use Rattle.tape.specs.Steps.{step}

pub every_row : EveryRow
unfolding step add sub mul div neg lt le of_int of_bits to_bits
every_row = (
  (refl, (refl, (refl, tt))),
  (
    (refl, (refl, (refl, tt))),
    (
      (refl, (refl, (refl, tt))),
      (
        (refl, (refl, tt)),
        (
          (refl, (refl, tt)),
          (
            (refl, (refl, (refl, tt))),
            (
              (refl, (refl, (refl, tt))),
              (
                (refl, (refl, tt)),
                (
                  (refl, (refl, tt)),
                  (
                    (refl, (refl, tt)),
                    (
                      (refl, (refl, tt)),
                      (
                        (refl, (refl, tt)),
                        (
                          (refl, (refl, tt)),
                          (
                            (refl, (refl, tt)),
                            (
                              (refl, (refl, tt)),
                              (
                                (refl, (refl, tt)),
                                (
                                  (refl, (refl, tt)),
                                  (
                                    (refl, (refl, tt)),
                                    (
                                      (refl, (refl, tt)),
                                      (
                                        (refl, (refl, tt)),
                                        (
                                          (refl, (refl, tt)),
                                          (
                                            (refl, (refl, tt)),
                                            (
                                              (refl, (refl, tt)),
                                              (
                                                (refl, (refl, tt)),
                                                ((refl, (refl, tt)), tt),
                                              ),
                                            ),
                                          ),
                                        ),
                                      ),
                                    ),
                                  ),
                                ),
                              ),
                            ),
                          ),
                        ),
                      ),
                    ),
                  ),
                ),
              ),
            ),
          ),
        ),
      ),
    ),
  ),
)

pub every_choice : EveryChoice
unfolding step add sub mul div neg lt le of_int of_bits to_bits
every_choice = (
  (refl, (refl, tt)),
  (refl, (refl, tt)),
  (refl, (refl, tt)),
  (refl, (refl, tt)),
  (refl, (refl, tt)),
  (refl, (refl, tt)),
  (refl, (refl, tt)),
)

-- with the root computed apart: within the call it would be computed many times over
of_four : root (fin false 1 (pos 2)) ≡ fin false 1 (pos 1)
unfolding root round
of_four = refl

at_four : Holds (rooted (float 4) (float 2) (of_bits binary64 0x3fd0_0000_0000_0000))
unfolding step div of_int of_bits
at_four = (rw (of_four), (refl, (rw (of_four), tt)))

pub every_root : EveryRoot
unfolding step root div neg of_int of_bits
every_root = (
  at_four,
  (refl, (refl, (refl, tt))),
  (refl, (refl, (refl, tt))),
  (refl, (refl, (refl, tt))),
  (refl, (refl, (refl, tt))),
  (refl, (refl, (refl, tt))),
  (refl, (refl, (refl, tt))),
)

pub every_slice : EverySlice
unfolding step add sub mul div neg lt le of_int of_bits to_bits
every_slice = (
  (refl, (refl, tt)),
  (refl, (refl, tt)),
  (refl, (refl, tt)),
  (refl, (refl, tt)),
  (refl, (refl, tt)),
  (refl, (refl, tt)),
  (refl, (refl, tt)),
  (refl, (refl, tt)),
  (refl, (refl, tt)),
)

pub every_handle : EveryHandle
unfolding step add sub mul div neg lt le of_int of_bits to_bits
every_handle = (
  (refl, (refl, tt)),
  (refl, (refl, tt)),
  (refl, (refl, tt)),
  (refl, (refl, tt)),
  (refl, (refl, tt)),
  (refl, (refl, tt)),
  (refl, (refl, tt)),
  (refl, (refl, tt)),
  (refl, (refl, tt)),
  (refl, (refl, tt)),
  (refl, (refl, tt)),
  (refl, (refl, tt)),
  (refl, tt),
)

pub every_text : EveryText
every_text = refl
